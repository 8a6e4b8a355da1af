-- The sum of a polynomial's values over the skip subgroup: Σ_{i<2^l} c(w^i), of the polynomial with the coefficients c.
use Rattle.std.specs.Prelude.{List, ℕ, ◌^◌}
use Rattle.algebra.specs.Ring.{Ring, pow}
use Rattle.algebra.specs.Sum.{sum}
use Rattle.algebra.specs.Polynomial.{value}

module _ {A : Type 0} (R : Ring A) (l : ℕ) (w : A) where
  unfoldable pub subgroup_sum : List A → A
  subgroup_sum cs = sum R (2 ^ l) (λ i. value R cs (pow R w i))
