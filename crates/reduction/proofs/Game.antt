-- The sumcheck as a game, for the proof of the price. A sender sees the challenges drawn so far and sends a message; the claim is carried on to the sent
-- polynomial's value at the next challenge; after the last one it must be the true value.
use mathlib.Core.Path.{◌≡◌, refl, sym, ◌∙◌}
use mathlib.Core.Logic.{◌≢◌}
use mathlib.Core.Bool.{Bool, true, false, ◌&&◌, false≢true}
use mathlib.Core.List.{List, [], ◌∷◌}
use Prim.Native.Nat.{ℕ, zero, suc}
use Rattle.algebra.specs.Ring.{Ring}
use Rattle.algebra.specs.Polynomial.{Degree}

-- a test that tells whether two elements are equal
pub record Tells {A : Type 0} (same : A → A → Bool) : Type 0 where
  pub equal : (x y : A) → same x y ≡ true → x ≡ y
  pub passes : (x y : A) → x ≡ y → same x y ≡ true

module _ {A : Type 0} {same : A → A → Bool} (tells : Tells same) where
  pub not_same : (x y : A) → x ≢ y → same x y ≡ false
  not_same x y n = by (same x y) (tells.equal x y)
    where
      by : (b : Bool) → (b ≡ true → x ≡ y) → b ≡ false
      by true h = absurd (n (h refl))
      by false h = refl

  pub not_equal : (x y : A) → same x y ≡ false → x ≢ y
  not_equal x y e h = false≢true (sym e ∙ tells.passes x y h)

module _ {A : Type 0} (R : Ring A) where
  -- claim and message make a quadratic that sums over 0 and 1 to the claim
  pub record Quadratics {M : Type 0} (sent : A → M → A → A) : Type 0 where
    pub degree : (c : A) (m : M) → Degree R 2 (sent c m)
    pub sums : (c : A) (m : M) → R.add (sent c m R.zero) (sent c m R.one) ≡ c

  -- true values over n rounds: g of the challenges so far is a quadratic in the next one, whose sum over 0 and 1 is g without it
  abbrev pub TrueValues : ℕ → (List A → A) → Type 0
  TrueValues zero g = Unit {0}
  TrueValues (suc n) g =
      Degree R 2 (λ x. g (x ∷ [])) × (R.add (g (R.zero ∷ [])) (g (R.one ∷ [])) ≡ g []) × ((u : A) → TrueValues n (λ v. g (u ∷ v)))

module _ {A M : Type 0} (same : A → A → Bool) (sent : A → M → A → A) where
  -- the later rounds: claim, sender, true values, challenges
  unfoldable pub won : A → (List A → M) → (List A → A) → List A → Bool
  won c s g [] = same c (g [])
  won c s g (u ∷ us) = won (sent c (s []) u) (λ v. s (u ∷ v)) (λ v. g (u ∷ v)) us

  -- round zero before them: the sum of the first polynomial f, as S takes it, must be the claim, which is carried on to f at the first challenge
  unfoldable pub won_first : ((A → A) → A) → A → (A → A) → (A → List A → M) → (A → List A → A) → List A → Bool
  won_first S c f s g [] = false
  won_first S c f s g (u ∷ us) = same c (S f) && won (f u) (s u) (g u) us

  -- and lambda before it: the claim is a function of lambda that is fixed before; f and s may see lambda
  unfoldable pub won_whole : ((A → A) → A) → (A → A) → (A → A → A) → (A → A → List A → M) → (A → A → List A → A) → List A → Bool
  won_whole S c f s g [] = false
  won_whole S c f s g (l ∷ us) = won_first S (c l) (f l) (s l) (g l) us
