-- The product of two polynomials of n coefficients each, by coefficients: coefficient j is Σ_{a ≤ j} f_a · g_(j − a).
use Rattle.std.specs.Prelude.{ℕ, suc, ◌-◌}
use Rattle.algebra.specs.Ring.{Ring}
use Rattle.algebra.specs.Sum.{sum}
use Rattle.tables.specs.Window.{below}

module _ {A : Type 0} (R : Ring A) where
  unfoldable pub product_at : ℕ → (ℕ → A) → (ℕ → A) → ℕ → A
  product_at n f g j = sum R (suc j) (λ a. R.mul (below R n f a) (below R n g (j - a)))
