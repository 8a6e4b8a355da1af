-- The table left of the rows v when z is put for the first variable: entry y is Σ_{i<N} v_(i + N·y) · L_i(z), with N = 2^l.
-- Document 01: the fold at u_0; `fold_ple_evals`.
use Rattle.std.specs.Prelude.{ℕ, ◌+◌, ◌*◌, ◌^◌}
use Rattle.algebra.specs.Ring.{Ring}
use Rattle.algebra.specs.Sum.{sum}
use Rattle.tables.specs.Lagrange.{lagrange}

module _ {A : Type 0} (R : Ring A) (half : A) (l : ℕ) (w : A) where
  unfoldable pub fold_ple : (ℕ → A) → A → ℕ → A
  fold_ple v z y = sum R (2 ^ l) (λ i. R.mul (v (i + 2 ^ l * y)) (lagrange R half l w i z))
