-- Any pairs: a carried claim that comes out right was right at first, or in some round the sent and the honest quadratic differ yet agree at the
-- challenge.
use mathlib.Core.Path.{◌≡◌, refl, sym, ◌∙◌, ap₂}
use mathlib.Core.Logic.{◌≢◌, ◌⊎◌, inl, inr}
use mathlib.Core.List.{[], ◌∷◌}
use Prim.Native.Nat.{ℕ, zero, suc, ◌<◌, ◌≤◌}
use native.Mathlib.Nat.{le_refl}
use native.Mathlib.Omega.{arith}
use Rattle.algebra.specs.Ring.{Ring, num}
use Rattle.algebra.specs.Polynomial.{Degree}
use Rattle.algebra.proofs.Expression.{◌:+◌, ◌:-◌, ◌:=◌}
use Rattle.algebra.proofs.Solver.{solve}
use Rattle.tables.proofs.Quadratics.{quadratic-zero, quadratic_one, quadratic_degree}
use Rattle.weights.specs.Carried.{sent, carried, sent_at, Slip}

module _ {A : Type 0} (R : Ring A) (half : A) where
  infixl 60 ◌⊕◌
  open R use {zero as 𝟘, one as 𝟙, add as ◌⊕◌}

  module _ (half_two : R.mul half (num R 2) ≡ R.one) where
    -- the sent quadratic sums over 0 and 1 to the claim
    pub sent-sum : (c s1 s2 : A) → sent R half c s1 s2 𝟘 ⊕ sent R half c s1 s2 𝟙 ≡ c
    unfolding sent
    sent-sum c s1 s2 =
        ap₂ ◌⊕◌ (quadratic-zero R half half_two _ s1 s2) (quadratic_one R half half_two _ s1 s2) ∙ solve R (c ∷ s1 ∷ []) (λ c s. c :- s :+ s := c) refl

    pub sent_degree : (c s1 s2 : A) → Degree R 2 (sent R half c s1 s2)
    unfolding sent
    sent_degree c s1 s2 = quadratic_degree R half half_two _ s1 s2

    -- of the honest quadratics only their sums over 0 and 1 and their values at the challenges enter
    module _ (same? : (a b : A) → Dec (a ≡ b)) (n : ℕ) (u v : ℕ → A) (g : ℕ → A → A) (c : A) (p q : ℕ → A)
        (sums : (j : ℕ) → j < n → g j 𝟘 ⊕ g j 𝟙 ≡ v j) (next : (j : ℕ) → j < n → v (suc j) ≡ g j (u j)) where
      slip_of_right : (m : ℕ) → m ≤ n → carried R half c p q u m ≡ v m
          → (c ≡ v 0) ⊎ ((j : ℕ) × (j < n) × Slip (sent_at R half c p q u j) (g j) (u j))
      unfolding carried sent_at
      slip_of_right zero h e = inl e
      slip_of_right (suc m) h e = go (same? (carried R half c p q u m) (v m)) (slip_of_right m (omega arith))
        where
          f : A → A
          f = sent_at R half c p q u m

          differ : carried R half c p q u m ≢ v m → Dec (f 𝟘 ≡ g m 𝟘) → (x : A) × (f x ≢ g m x)
          differ wrong (no d) = (𝟘, d)
          differ wrong (yes d) = (𝟙, λ o. wrong (sym (sent-sum (carried R half c p q u m) (p m) (q m)) ∙ ap₂ ◌⊕◌ d o ∙ sums m h))

          go : Dec (carried R half c p q u m ≡ v m)
              → (carried R half c p q u m ≡ v m → (c ≡ v 0) ⊎ ((j : ℕ) × (j < n) × Slip (sent_at R half c p q u j) (g j) (u j)))
              → (c ≡ v 0) ⊎ ((j : ℕ) × (j < n) × Slip (sent_at R half c p q u j) (g j) (u j))
          go (yes r) ih = ih r
          go (no r) ih = inr (m, h, record { differ = differ r (same? (f 𝟘) (g m 𝟘)); agree = e ∙ next m h })

      pub right_or_slip : carried R half c p q u n ≡ v n → (c ≡ v 0) ⊎ ((j : ℕ) × (j < n) × Slip (sent_at R half c p q u j) (g j) (u j))
      right_or_slip = slip_of_right n (le_refl n)
