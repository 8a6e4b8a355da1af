-- Interpolation at the powers of w, in any ring with a half: the coefficients from the values, the value anywhere, and uniqueness.
use mathlib.Core.Path.{◌≡◌, refl, sym, ◌∙◌, ap}
use mathlib.Core.Logic.{◌≢◌}
use mathlib.Core.List.{List, [], ◌∷◌}
use Prim.Native.Nat.{ℕ, ◌*◌, ◌-◌, ◌^◌, ◌<◌, ◌≤◌}
use native.Mathlib.Decide.{ℕ_discrete}
use native.Mathlib.Omega.{arith}
use lib.ListN.{length, get_or}
use lib.Seq.{ext_get_or}
use Rattle.algebra.specs.Ring.{Ring, num, pow}
use Rattle.algebra.specs.Sum.{sum}
use Rattle.algebra.specs.Polynomial.{value}
use Rattle.algebra.proofs.RingLaws as Laws
use Rattle.algebra.proofs.Expression.{:1, ◌:*◌, ◌:=◌, ◌given◌⋆◌≈◌}
use Rattle.algebra.proofs.Solver.{solve}
use Rattle.algebra.proofs.Sums.{sum_cong, sum_cong_below, sum-mul, sum-mul-right, sum_swap, sum_delta}
use Rattle.algebra.proofs.Powers.{pow-mul, pow_swap, pow-inverse, half_pow}
use Rattle.tables.specs.Root.{Skip}
use Rattle.tables.specs.Lagrange.{lagrange}
use Rattle.tables.proofs.Roots.{inverse, mul-inverse}
use Rattle.tables.proofs.GeometricSums.{geo, geo_one, mean}
use Rattle.tables.proofs.LagrangeBasis.{lagrange-mean, lagrange_same, lagrange_other, geo_other}
use Rattle.algebra.specs.Listed.{listed}
use Rattle.algebra.proofs.Lists.{length-listed}
use Rattle.tables.proofs.PolynomialValues.{value-sum, value-listed}

module _ {A : Type 0} (R : Ring A) (half : A) (l : ℕ) (w : A) where
  -- the coefficients of lagrange i, in order
  unfoldable pub lagrange_list : ℕ → List A
  lagrange_list i = listed (2 ^ l) (λ k. R.mul (pow R half l) (pow R w ((2 ^ l - i) * k)))

  pub lagrange_list-length : (i : ℕ) → length (lagrange_list i) ≡ 2 ^ l
  unfolding lagrange_list
  lagrange_list-length i = length-listed (2 ^ l) _

  pub lagrange_list-value : (i : ℕ) (z : A) → value R (lagrange_list i) z ≡ lagrange R half l w i z
  unfolding lagrange_list lagrange
  lagrange_list-value i z =
      value-listed R (2 ^ l) _ z
      ∙ sum_cong R (2 ^ l) (λ k. solve R (pow R half l ∷ pow R w ((2 ^ l - i) * k) ∷ pow R z k ∷ []) (λ h w z. h :* w :* z := h :* (z :* w)) refl)
      ∙ sum-mul R (2 ^ l) (pow R half l) (λ k. R.mul (pow R z k) (pow R w ((2 ^ l - i) * k)))

module _ {A : Type 0} {R : Ring A} {half : A} {l : ℕ} {w : A} (skip : Skip R half l w) where
  infixl 70 ◌⊗◌
  open R use {zero as 𝟘, one as 𝟙, mul as ◌⊗◌, mul_assoc}

  -- 1/w
  abbrev v : A
  v = inverse R l w

  -- the value of 2^l coefficients, and coefficient k of the polynomial with the values f at the powers
  abbrev at : (ℕ → A) → A → A
  at c x = sum R (2 ^ l) (λ j. c j ⊗ pow R x j)

  abbrev coefficient : (ℕ → A) → ℕ → A
  coefficient f k = pow R half l ⊗ sum R (2 ^ l) (λ i. f i ⊗ pow R (pow R v k) i)

  -- the values give the coefficients back
  coefficient_of_values : (c : ℕ → A) (k : ℕ) → k < 2 ^ l → coefficient (λ i. at c (pow R w i)) k ≡ c k
  unfolding geo
  coefficient_of_values c k h =
      ap (λ s. pow R half l ⊗ s)
      (sum_cong R (2 ^ l) (λ i. sym (sum-mul-right R (2 ^ l) (pow R (pow R v k) i) (λ j. c j ⊗ pow R (pow R w i) j)) ∙ sum_cong R (2 ^ l) (λ j. term i j))
      ∙ sum_swap R (2 ^ l) (2 ^ l) (λ i j. c j ⊗ pow R (pow R w j ⊗ pow R v k) i)
      ∙ sum_cong R (2 ^ l) (λ j. sum-mul R (2 ^ l) (c j) (pow R (pow R w j ⊗ pow R v k)))
      ∙ sum_delta R (2 ^ l) (λ j. c j ⊗ geo R l (pow R w j ⊗ pow R v k)) k h
      (λ j s ne. ap (λ g. c j ⊗ g) (geo_other skip k j h s (λ e. ne (sym e))) ∙ Laws.mul-zero R _)
      ∙ ap (λ g. c k ⊗ g) (ap (geo R l) (pow-inverse R w v k (mul-inverse R l w skip.root)) ∙ geo_one R l))
      ∙ solve R (pow R half l ∷ c k ∷ num R (2 ^ l) ∷ []) (λ p c n. p :* (c :* n) := c given c ⋆ p :* n ≈ :1) refl (half_pow R half skip.half_two l)
    where
      term : (i j : ℕ) → c j ⊗ pow R (pow R w i) j ⊗ pow R (pow R v k) i ≡ c j ⊗ pow R (pow R w j ⊗ pow R v k) i
      term i j = mul_assoc _ _ _ ∙ ap (λ x. c j ⊗ x) (ap (λ x. x ⊗ pow R (pow R v k) i) (pow_swap R w i j) ∙ sym (pow-mul R (pow R w j) (pow R v k) i))

  -- the sum of values times Lagrange polynomials, by its coefficients
  lagrange-sum : (f : ℕ → A) (z : A) → sum R (2 ^ l) (λ i. f i ⊗ lagrange R half l w i z) ≡ at (coefficient f) z
  unfolding mean geo
  lagrange-sum f z =
      sum_cong_below R (2 ^ l) (λ i h.
      ap (λ x. f i ⊗ x) (lagrange-mean skip i z (omega arith)) ∙ sym (mul_assoc _ _ _)
      ∙ sym (sum-mul R (2 ^ l) (f i ⊗ pow R half l) (pow R (z ⊗ pow R v i))) ∙ sum_cong R (2 ^ l) (term i))
      ∙ sum_swap R (2 ^ l) (2 ^ l) (λ i k. pow R half l ⊗ pow R z k ⊗ (f i ⊗ pow R (pow R v k) i))
      ∙ sum_cong R (2 ^ l) (λ k.
      sum-mul R (2 ^ l) (pow R half l ⊗ pow R z k) (λ i. f i ⊗ pow R (pow R v k) i)
      ∙ solve R (pow R half l ∷ pow R z k ∷ sum R (2 ^ l) (λ i. f i ⊗ pow R (pow R v k) i) ∷ []) (λ p z s. p :* z :* s := p :* s :* z) refl)
    where
      term : (i k : ℕ) → f i ⊗ pow R half l ⊗ pow R (z ⊗ pow R v i) k ≡ pow R half l ⊗ pow R z k ⊗ (f i ⊗ pow R (pow R v k) i)
      term i k =
          ap (λ x. f i ⊗ pow R half l ⊗ x) (pow-mul R z (pow R v i) k ∙ ap (λ x. pow R z k ⊗ x) (pow_swap R v i k))
          ∙ solve R (f i ∷ pow R half l ∷ pow R z k ∷ pow R (pow R v k) i ∷ []) (λ f p z v. f :* p :* (z :* v) := p :* z :* (f :* v)) refl

  -- the value anywhere, from the values at the powers
  pub interpolate : (cs : List A) (z : A) → length cs ≤ 2 ^ l → sum R (2 ^ l) (λ i. value R cs (pow R w i) ⊗ lagrange R half l w i z) ≡ value R cs z
  interpolate cs z h =
      sum_cong R (2 ^ l) (λ i. ap (λ x. x ⊗ lagrange R half l w i z) (value-sum R cs (2 ^ l) (pow R w i) h))
      ∙ lagrange-sum (λ i. at c (pow R w i)) z ∙ sum_cong_below R (2 ^ l) (λ k s. ap (λ x. x ⊗ pow R z k) (coefficient_of_values c k s))
      ∙ sym (value-sum R cs (2 ^ l) z h)
    where
      c : ℕ → A
      c k = get_or cs k 𝟘

  -- equal values at the powers, equal coefficients: no need of a domain
  pub interpolation_unique : (cs ds : List A) → length cs ≡ 2 ^ l → length ds ≡ 2 ^ l
      → ((i : ℕ) → i < 2 ^ l → value R cs (pow R w i) ≡ value R ds (pow R w i)) → cs ≡ ds
  interpolation_unique cs ds p q h =
      ext_get_or 𝟘 cs ds (p ∙ sym q)
      (λ k s.
      sym (coefficient_of_values (λ j. get_or cs j 𝟘) k (omega arith))
      ∙ ap (λ x. pow R half l ⊗ x) (sum_cong_below R (2 ^ l) (λ i t. ap (λ x. x ⊗ pow R (pow R v k) i) (same i t)))
      ∙ coefficient_of_values (λ j. get_or ds j 𝟘) k (omega arith))
    where
      same : (i : ℕ) → i < 2 ^ l → at (λ j. get_or cs j 𝟘) (pow R w i) ≡ at (λ j. get_or ds j 𝟘) (pow R w i)
      same i t = sym (value-sum R cs (2 ^ l) (pow R w i) (omega arith)) ∙ h i t ∙ value-sum R ds (2 ^ l) (pow R w i) (omega arith)

  -- so the Lagrange basis is what its values say
  pub lagrange_unique : (cs : List A) (i : ℕ) → length cs ≡ 2 ^ l → i < 2 ^ l → value R cs (pow R w i) ≡ 𝟙
      → ((j : ℕ) → j < 2 ^ l → i ≢ j → value R cs (pow R w j) ≡ 𝟘) → cs ≡ lagrange_list R half l w i
  lagrange_unique cs i p h same other =
      interpolation_unique cs (lagrange_list R half l w i) p (lagrange_list-length R half l w i)
      (λ j s. at_power j s (ℕ_discrete i j) ∙ sym (lagrange_list-value R half l w i (pow R w j)))
    where
      at_power : (j : ℕ) → j < 2 ^ l → Dec (i ≡ j) → value R cs (pow R w j) ≡ lagrange R half l w i (pow R w j)
      at_power j s (yes e) = ap (λ k. value R cs (pow R w k)) (sym e) ∙ same ∙ sym (lagrange_same skip i (omega arith)) ∙ ap (λ k. lagrange R half l w i (pow R w k)) e
      at_power j s (no ne) = other j s ne ∙ sym (lagrange_other skip i j h s ne)
