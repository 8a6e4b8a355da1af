-- Stack columns, counted over all commitments: their rows, the table that folds leave of one, and its value when every variable is put.
use Rattle.std.specs.Prelude.{List, ℕ, ◌+◌, ◌*◌}
use Rattle.algebra.specs.Ring.{Ring}
use Rattle.tables.specs.Prism.{prism}
use Rattle.tables.specs.FoldPle.{fold_ple}
use Rattle.tables.specs.FoldMany.{fold_many}
use Rattle.layout.specs.Placing.{height}
use Rattle.weights.specs.Run.{Run}

-- cells: the stacked matrices, cell by cell through all stack columns
module _ {A : Type 0} (run : Run A) (cells : ℕ → A) where
  -- the rows of stack column c
  unfoldable pub stack_rows : ℕ → ℕ → A
  stack_rows c i = cells (c * height run.skip run.stack + i)

module _ {A : Type 0} (R : Ring A) (half w : A) (run : Run A) (cells : ℕ → A) where
  -- stack column c after the folds at u_0 and us
  unfoldable pub folded_column : A → List A → ℕ → ℕ → A
  folded_column u us c = fold_many R (fold_ple R half run.skip w (stack_rows run cells c) u) us

  -- document 01: the true column values are the stack columns' polynomials at u_0 to u_n_stack
  unfoldable pub true_opening : A → List A → ℕ → A
  true_opening u us c = prism R half run.skip w (stack_rows run cells c) u us
