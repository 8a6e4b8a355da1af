-- The weighted sum. Document 01: row i of a stack column stands at z, the skip subgroup's power i mod 2^l_skip, and at x_1 to x_n_stack, the bits
-- of i above, lowest first; the polynomial through H values there has degree below 2^l_skip in z and at most 1 in each x.
use Rattle.std.specs.Prelude.{List, [], ◌∷◌, ◌++◌, ℕ, ◌-◌, ◌^◌, length}
use Rattle.algebra.specs.Ring.{Ring}
use Rattle.algebra.specs.Sum.{sum}
use Rattle.algebra.specs.Multilinear.{bits}
use Rattle.tables.specs.Prism.{prism}
use Rattle.weights.specs.Run.{Run, stack_of}
use Rattle.weights.specs.Weights.{weights}
use Rattle.weights.specs.StackColumns.{stack_rows}

module _ {A : Type 0} (R : Ring A) (half w : A) (run : Run A) (cells : ℕ → A) where
  -- the polynomials through column k's weights and through its stack column, multiplied
  unfoldable pub column_term : ℕ → A → List A → A
  column_term k z xs =
      R.mul (prism R half run.skip w (weights R half w run k) z xs) (prism R half run.skip w (stack_rows run cells (stack_of run k)) z xs)

  -- The weighted sum folded at u_0 to u_j, us being u_1 to u_j: put these for z and x_1 to x_j into the polynomials through each column's weights
  -- and through its stack column, multiply, add over columns and over every 0 and 1 for the other x.
  unfoldable pub folded_sum : A → List A → A
  folded_sum u us =
      sum R run.count (λ k. sum R (2 ^ (run.stack - length us)) (λ y. column_term k u (us ++ bits R (run.stack - length us) y)))

  -- Round j's honest quadratic is the weighted sum folded at u_0 to u_(j−1) with x_j left free, as a function of it.
  unfoldable pub honest : A → List A → A → A
  honest u us x = folded_sum u (us ++ (x ∷ []))
