-- The verdict's last sum, for any openings: the polynomial through each column's weights at u_0 to u_n_stack, times the opening of its stack column.
use Rattle.std.specs.Prelude.{List, ℕ}
use Rattle.algebra.specs.Ring.{Ring}
use Rattle.algebra.specs.Sum.{sum}
use Rattle.tables.specs.Prism.{prism}
use Rattle.weights.specs.Run.{Run, stack_of}
use Rattle.weights.specs.Weights.{weights}

module _ {A : Type 0} (R : Ring A) (half w : A) (run : Run A) where
  unfoldable pub final_sum : A → List A → (ℕ → A) → A
  final_sum u us openings =
      sum R run.count (λ k. R.mul (prism R half run.skip w (weights R half w run k) u us) (openings (stack_of run k)))
