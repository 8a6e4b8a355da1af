-- Polynomials in one variable, as their coefficients, the constant one first.
use Rattle.std.specs.Prelude.{◌≡◌, ◌≢◌, List, [], ◌∷◌, ℕ, suc, length}
use Rattle.algebra.specs.Ring.{Ring}

module _ {A : Type 0} where
  -- every element of a list satisfies P
  abbrev pub All : (A → Type 0) → List A → Type 0
  All P [] = Unit {0}
  All P (c ∷ cs) = P c × All P cs

  -- no two elements of a list are equal
  abbrev pub Distinct : List A → Type 0
  Distinct [] = Unit {0}
  Distinct (r ∷ rs) = All (λ s. s ≢ r) rs × Distinct rs

module _ {A : Type 0} (R : Ring A) where
  -- the value at x, by Horner's rule: c_0 + x · (c_1 + x · (c_2 + ..))
  unfoldable pub value : List A → A → A
  value [] x = R.zero
  value (c ∷ cs) x = R.add c (R.mul x (value cs x))

  abbrev pub IsZero : A → Type 0
  IsZero c = c ≡ R.zero

  -- f is a polynomial of degree at most d
  abbrev pub Degree : ℕ → (A → A) → Type 0
  Degree d f = (cs : List A) × (length cs ≡ suc d) × ((x : A) → f x ≡ value cs x)
