-- Honest pairs: the carried claim comes out right exactly if the first was right or some challenge is 1 or 2. From left to right this takes a ring with
-- no zero divisors in which equality can be told.
use mathlib.Core.Path.{◌≡◌, refl}
use mathlib.Core.Logic.{◌⊎◌, inl, inr, ◌↔◌}
use mathlib.Core.List.{[], ◌∷◌}
use Prim.Native.Nat.{ℕ, zero, suc, ◌≤◌}
use native.Mathlib.Nat
use native.Mathlib.Omega.{arith}
use Rattle.algebra.specs.Ring.{Ring, num, Domain}
use Rattle.algebra.proofs.RingLaws as Laws
use Rattle.algebra.proofs.Expression.{con, :0, :1, ◌:-◌, ◌:*◌, :neg, ◌:=◌, ◌given◌⋆◌≈◌}
use Rattle.algebra.proofs.Solver.{solve}
use Rattle.weights.specs.Carried.{carried, OneOrTwo}
use Rattle.weights.proofs.CarriedErrors.{Honest, kept, error_step, right_if}

module _ {A : Type 0} (R : Ring A) (half : A) (half_two : R.mul half (num R 2) ≡ R.one) (domain : Domain R) (same? : (a b : A) → Dec (a ≡ b))
    {n : ℕ} {u v : ℕ → A} {g : ℕ → A → A} (honest : Honest R half n u v g) (c : A) where
  infixl 60 ◌⊕◌ ◌⊖◌
  infixl 70 ◌⊗◌
  open R use {zero as 𝟘, one as 𝟙, add as ◌⊕◌, mul as ◌⊗◌, neg}

  abbrev ◌⊖◌ : A → A → A
  a ⊖ b = a ⊕ neg b

  abbrev claim : ℕ → A
  claim = kept R half honest c

  right_only_if : (m : ℕ) → m ≤ n → claim m ≡ v m → (c ≡ v 0) ⊎ OneOrTwo R u m
  unfolding carried
  right_only_if zero h e = inl e
  right_only_if (suc m) h e = go (same? (claim m) (v m)) (same? (u m) 𝟙) (right_only_if m (omega arith))
    where
      product : (claim m ⊖ v m) ⊗ ((u m ⊖ 𝟙) ⊗ (u m ⊖ num R 2)) ≡ 𝟘
      product =
          solve R (half ∷ claim m ∷ v m ∷ u m ∷ claim (suc m) ∷ v (suc m) ∷ [])
          (λ h a b u k w. (a :- b) :* ((u :- :1) :* (u :- con 2)) := :0
          given :neg ((a :- b) :* (u :- :1) :* (u :- con 2)) ⋆ h :* con 2 ≈ :1
          given :neg (con 2) ⋆ k :- w ≈ (a :- b) :* (h :* (u :- :1) :* (u :- con 2))
          given con 2 ⋆ k ≈ w) refl half_two (error_step R half honest c m h) e

      up : (c ≡ v 0) ⊎ OneOrTwo R u m → (c ≡ v 0) ⊎ OneOrTwo R u (suc m)
      up (inl p) = inl p
      up (inr (j, s, p)) = inr (j, omega arith, p)

      go : Dec (claim m ≡ v m) → Dec (u m ≡ 𝟙) → (claim m ≡ v m → (c ≡ v 0) ⊎ OneOrTwo R u m) → (c ≡ v 0) ⊎ OneOrTwo R u (suc m)
      go (yes r) d ih = up (ih r)
      go (no r) (yes o) ih = inr (m, Nat.le_refl _, inl o)
      go (no r) (no o) ih =
          let two : (u m ⊖ 𝟙) ⊗ (u m ⊖ num R 2) ≡ 𝟘 = domain (claim m ⊖ v m) _ (λ z. r (Laws.eq_of_sub R _ _ z)) product in
          inr (m, Nat.le_refl _, inr (Laws.eq_of_sub R _ _ (domain (u m ⊖ 𝟙) _ (λ z. o (Laws.eq_of_sub R _ _ z)) two)))

  pub right_exactly : (carried R half c (λ j. g j 𝟙) (λ j. g j (num R 2)) u n ≡ v n) ↔ ((c ≡ v 0) ⊎ OneOrTwo R u n)
  right_exactly = (right_only_if n (Nat.le_refl n), right_if R half honest c)
