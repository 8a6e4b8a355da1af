-- The carried claim against honest rounds, which are any quadratics that sum over 0 and 1 to the claim before and have the next claim at the challenge.
-- With honest pairs a wrong claim's error is multiplied by half·(u − 1)(u − 2) each round.
use mathlib.Core.Path.{◌≡◌, refl, ◌∙◌, ap}
use mathlib.Core.Logic.{◌⊎◌, inl, inr}
use mathlib.Core.List.{[], ◌∷◌}
use Prim.Native.Nat.{ℕ, zero, suc, ◌+◌, ◌-◌, ◌<◌, ◌≤◌}
use native.Mathlib.Nat
use native.Mathlib.Omega.{arith}
use Rattle.algebra.specs.Ring.{Ring, num}
use Rattle.algebra.proofs.RingLaws as Laws
use Rattle.algebra.proofs.Expression.{con, :0, :1, ◌:+◌, ◌:-◌, ◌:*◌, :neg, ◌:=◌, ◌given◌⋆◌≈◌}
use Rattle.algebra.proofs.Solver.{solve}
use Rattle.tables.specs.Quadratic.{quadratic}
use Rattle.weights.specs.Carried.{sent, carried, OneOrTwo}

-- v j is the honest claim after j of n rounds, g j the honest quadratic of the round after it
pub record Honest {A : Type 0} (R : Ring A) (half : A) (n : ℕ) (u v : ℕ → A) (g : ℕ → A → A) : Type 0 where
  pub sums : (j : ℕ) → j < n → R.add (g j R.zero) (g j R.one) ≡ v j
  pub next : (j : ℕ) → j < n → v (suc j) ≡ g j (u j)
  pub values : (j : ℕ) → j < n → (x : A) → g j x ≡ quadratic R half (g j R.zero) (g j R.one) (g j (num R 2)) x

module _ {A : Type 0} (R : Ring A) (half : A) where
  infixl 60 ◌⊕◌ ◌⊖◌
  infixl 70 ◌⊗◌
  open R use {zero as 𝟘, one as 𝟙, add as ◌⊕◌, mul as ◌⊗◌, neg}

  abbrev ◌⊖◌ : A → A → A
  a ⊖ b = a ⊕ neg b

  -- what a wrong claim becomes under an honest pair
  sent_error : (c v g0 s1 s2 x : A) → g0 ⊕ s1 ≡ v
      → sent R half c s1 s2 x ⊖ quadratic R half g0 s1 s2 x ≡ (c ⊖ v) ⊗ (half ⊗ (x ⊖ 𝟙) ⊗ (x ⊖ num R 2))
  unfolding sent quadratic
  sent_error c v g0 s1 s2 x e =
      solve R (half ∷ c ∷ v ∷ g0 ∷ s1 ∷ s2 ∷ x ∷ [])
      (λ h c v g0 s1 s2 x.
      h :* (x :- :1) :* (x :- con 2) :* (c :- s1) :+ x :* (con 2 :- x) :* s1 :+ h :* x :* (x :- :1) :* s2
      :- (h :* (x :- :1) :* (x :- con 2) :* g0 :+ x :* (con 2 :- x) :* s1 :+ h :* x :* (x :- :1) :* s2)
      := (c :- v) :* (h :* (x :- :1) :* (x :- con 2))
      given :neg (h :* (x :- :1) :* (x :- con 2)) ⋆ g0 :+ s1 ≈ v) refl e

  module _ {n : ℕ} {u v : ℕ → A} {g : ℕ → A → A} (honest : Honest R half n u v g) (c : A) where
    -- the claim carried through the honest pairs
    abbrev pub kept : ℕ → A
    kept = carried R half c (λ j. g j 𝟙) (λ j. g j (num R 2)) u

    -- e_(j+1) = e_j · half · (u_j − 1)(u_j − 2)
    pub error_step : (j : ℕ) → j < n → kept (suc j) ⊖ v (suc j) ≡ (kept j ⊖ v j) ⊗ (half ⊗ (u j ⊖ 𝟙) ⊗ (u j ⊖ num R 2))
    unfolding carried
    error_step j h =
        ap (λ t. kept (suc j) ⊖ t) (honest.next j h ∙ honest.values j h (u j))
        ∙ sent_error (kept j) (v j) (g j 𝟘) (g j 𝟙) (g j (num R 2)) (u j) (honest.sums j h)

    kept_step : (j : ℕ) → j < n → (kept j ≡ v j) ⊎ ((u j ≡ 𝟙) ⊎ (u j ≡ num R 2)) → kept (suc j) ≡ v (suc j)
    kept_step j h right = Laws.eq_of_sub R _ _ (error_step j h ∙ none right)
      where
        none : (kept j ≡ v j) ⊎ ((u j ≡ 𝟙) ⊎ (u j ≡ num R 2)) → (kept j ⊖ v j) ⊗ (half ⊗ (u j ⊖ 𝟙) ⊗ (u j ⊖ num R 2)) ≡ 𝟘
        none (inl e) = solve R (kept j ∷ v j ∷ u j ∷ half ∷ []) (λ c v u h. (c :- v) :* (h :* (u :- :1) :* (u :- con 2)) := :0 given h :* (u :- :1) :* (u :- con 2) ⋆ c ≈ v) refl e
        none (inr (inl e)) = solve R (kept j ∷ v j ∷ u j ∷ half ∷ []) (λ c v u h. (c :- v) :* (h :* (u :- :1) :* (u :- con 2)) := :0 given (c :- v) :* h :* (u :- con 2) ⋆ u ≈ :1) refl e
        none (inr (inr e)) = solve R (kept j ∷ v j ∷ u j ∷ half ∷ []) (λ c v u h. (c :- v) :* (h :* (u :- :1) :* (u :- con 2)) := :0 given (c :- v) :* h :* (u :- :1) ⋆ u ≈ con 2) refl e

    -- once right, always right
    kept_on : (j d : ℕ) → j + d ≤ n → kept j ≡ v j → kept (j + d) ≡ v (j + d)
    kept_on j zero h e = rw Nat.add-zero e
    kept_on j (suc d) h e =
        let s : suc (j + d) ≤ n = rw (Nat.add-suc j d) at h in
        rw (Nat.add-suc j d) (kept_step (j + d) s (inl (kept_on j d (omega arith) e)))

    -- honest pairs: the last claim is right if the first was, or if some challenge is 1 or 2
    pub right_if : (c ≡ v 0) ⊎ OneOrTwo R u n → kept n ≡ v n
    unfolding carried
    right_if (inl e) = rw Nat.zero-add at (kept_on 0 n (rw Nat.zero-add (Nat.le_refl _)) e)
    right_if (inr (j, h, e)) =
        let d : suc j + (n - suc j) ≡ n = omega arith in
        rw d at (kept_on (suc j) (n - suc j) (rw d (Nat.le_refl _)) (kept_step j h (inr e)))
