-- The value of column k at r, and the same with its rows turned by one: the true claims. Document 01: its value at r is a sum over its rows; e(t) is
-- the factor of row t there.
use Rattle.std.specs.Prelude.{ℕ, ◌+◌, ◌*◌, ◌^◌}
use Rattle.algebra.specs.Ring.{Ring}
use Rattle.algebra.specs.Sum.{sum}
use Rattle.tables.specs.Index.{before}
use Rattle.weights.specs.Run.{Run, stack_of, start_row, gap}
use Rattle.weights.specs.ColumnFactor.{column_factor}
use Rattle.weights.specs.LambdaPowers.{plain_power, rotated_power}
use Rattle.weights.specs.StackColumns.{stack_rows}

module _ {A : Type 0} (run : Run A) (cells : ℕ → A) where
  -- cell t of column k
  unfoldable pub cell : ℕ → ℕ → A
  cell k t = stack_rows run cells (stack_of run k) (start_row run k + 2 ^ gap run (run.log k) * t)

module _ {A : Type 0} (R : Ring A) (half w : A) (run : Run A) (cells : ℕ → A) where
  unfoldable pub column_value : ℕ → A
  column_value k = sum R (2 ^ run.log k) (λ t. R.mul (cell run cells k t) (column_factor R half w run (run.log k) t))

  unfoldable pub column_rotated : ℕ → A
  column_rotated k =
      sum R (2 ^ run.log k) (λ t. R.mul (cell run cells k t) (column_factor R half w run (run.log k) (before (2 ^ run.log k) t)))

  -- the true claims times their lambda powers
  unfoldable pub weighted_truth : A
  weighted_truth =
      sum R run.count (λ k. R.add (R.mul (plain_power R run k) (column_value k)) (R.mul (rotated_power R run k) (column_rotated k)))
