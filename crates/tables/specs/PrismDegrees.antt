-- Polynomials on the prism by their degrees.
use Rattle.std.specs.Prelude.{◌≡◌, List, ◌∷◌, ◌++◌, ℕ, suc, ◌+◌, ◌-◌, ◌*◌, ◌^◌, ◌/◌, ◌%◌, ◌<◌, length}
use Rattle.algebra.specs.Ring.{Ring, pow}
use Rattle.algebra.specs.Polynomial.{Degree}
use Rattle.algebra.specs.Multilinear.{bits}

-- f of z and of n coordinates is a polynomial through the H = 2^l · 2^n values v, each at its row's point: row t stands at the power t mod 2^l
-- of w and at the bits of t above, the lowest first. Document 01: of degree below 2^l_skip in z and at most 1 in each x, whatever the others are.
pub record PrismPolynomial {A : Type 0} (R : Ring A) (l : ℕ) (w : A) (n : ℕ) (v : ℕ → A) (f : A → List A → A) : Type 0 where
  pub at_row : (t : ℕ) → t < 2 ^ l * 2 ^ n → f (pow R w (t % 2 ^ l)) (bits R n (t / 2 ^ l)) ≡ v t
  pub in_z : (xs : List A) → length xs ≡ n → Degree R (2 ^ l - 1) (λ z. f z xs)
  pub in_each_x : (z : A) (xs ys : List A) → length xs + suc (length ys) ≡ n → Degree R 1 (λ x. f z (xs ++ (x ∷ ys)))
