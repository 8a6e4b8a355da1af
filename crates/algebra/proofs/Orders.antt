-- The order of an element whose power 2^k is −1, where 1 ≠ −1: its first 2^(k + 1) powers are distinct.
use mathlib.Core.Path.{◌≡◌, refl, ap, sym, ◌∙◌, subst}
use mathlib.Core.Logic.{◌≢◌}
use mathlib.Core.List.{[], ◌∷◌}
use Prim.Native.Nat.{ℕ, zero, suc, ◌+◌, ◌*◌, ◌-◌, ◌%◌, ◌/◌, ◌^◌, ◌<◌}
use native.Mathlib.Nat
use native.Mathlib.Nat.{two-pow-succ}
use native.Mathlib.Omega.{arith}
use native.Mathlib.Decide.{ℕ_discrete}
use Rattle.algebra.specs.Ring.{Ring, pow}
use Rattle.algebra.proofs.Expression.{:1, ◌:-◌, ◌:*◌, :neg, ◌:=◌, ◌given◌⋆◌≈◌}
use Rattle.algebra.proofs.Solver.{solve}
use Rattle.algebra.proofs.Powers.{pow-add, pow-pow, pow_swap, pow_of_one}

module _ {A : Type 0} (R : Ring A) where
  infixl 70 ◌⊗◌
  open R use {one as 𝟙, mul as ◌⊗◌, neg, mul_one}

  pub pow_double : (x : A) (e : ℕ) → pow R x (2 * e) ≡ pow R (x ⊗ x) e
  unfolding pow
  pow_double x e = sym (pow-pow R x 2 e) ∙ ap (λ y. pow R (x ⊗ y) e) (mul_one x)

  pub odd_power : (e : ℕ) → pow R (neg 𝟙) (suc (2 * e)) ≡ neg 𝟙
  unfolding pow
  odd_power e =
      ap (λ y. neg 𝟙 ⊗ y) (pow_double (neg 𝟙) e ∙ ap (λ y. pow R y e) (solve R [] (:neg :1 :* :neg :1 := :1) refl) ∙ pow_of_one R e) ∙ mul_one (neg 𝟙)

  -- twice as far from −1
  pub half_way_square : (k : ℕ) (g : A) → pow R g (2 ^ suc k) ≡ neg 𝟙 → pow R (g ⊗ g) (2 ^ k) ≡ neg 𝟙
  half_way_square k g h = sym (pow_double g (2 ^ k)) ∙ ap (pow R g) (sym (Nat.pow-succ' 2 k)) ∙ h

  pub half_way_turn : (k : ℕ) (g : A) → pow R g (2 ^ k) ≡ neg 𝟙 → pow R g (2 ^ suc k) ≡ 𝟙
  half_way_turn k g h =
      ap (pow R g) (two-pow-succ k) ∙ pow-add R g (2 ^ k) (2 ^ k)
      ∙ solve R (pow R g (2 ^ k) ∷ []) (λ x. x :* x := :1 given x :- :1 ⋆ x ≈ :neg :1) refl h

  module _ (ne : 𝟙 ≢ neg 𝟙) where
    odd_order : (k e : ℕ) (g : A) → pow R g (2 ^ k) ≡ neg 𝟙 → pow R g (suc (2 * e)) ≢ 𝟙
    odd_order k e g h o =
        ne
        (sym (pow_of_one R (2 ^ k)) ∙ ap (λ y. pow R y (2 ^ k)) (sym o) ∙ pow_swap R g (suc (2 * e)) (2 ^ k) ∙ ap (λ y. pow R y (suc (2 * e))) h
        ∙ odd_power e)

    -- no power before the 2^(k + 1)-th is one
    pub order : (k : ℕ) (g : A) → pow R g (2 ^ k) ≡ neg 𝟙 → (d : ℕ) → 0 < d → d < 2 ^ suc k → pow R g d ≢ 𝟙
    order zero g h d lo hi = subst (λ n. pow R g n ≢ 𝟙) {x = suc (2 * 0)} {y = d} (omega arith) (odd_order zero 0 g h)
    order (suc k) g h d lo hi = elim (ℕ_discrete (d % 2) 0) [
      | yes z ↦
          subst (λ n. pow R g n ≢ 𝟙) {x = 2 * (d / 2)} {y = d} (omega arith)
          (λ o. order k (g ⊗ g) (half_way_square k g h) (d / 2) (omega arith) (omega arith) (sym (pow_double g (d / 2)) ∙ o))
      | no z ↦ subst (λ n. pow R g n ≢ 𝟙) {x = suc (2 * (d / 2))} {y = d} (omega arith) (odd_order (suc k) (d / 2) g h)
    ]

    pub powers_distinct : (k : ℕ) (g : A) → pow R g (2 ^ k) ≡ neg 𝟙 → (i j : ℕ) → i < j → j < 2 ^ suc k → pow R g i ≢ pow R g j
    powers_distinct k g h i j lt hi e =
        order k g h (j - i) (omega arith) (omega arith)
        (solve R (pow R g i ∷ pow R g (2 ^ suc k - i) ∷ pow R g (j - i) ∷ pow R g j ∷ [])
        (λ a b d c. d := :1 given :1 :- d ⋆ a :* b ≈ :1 given b ⋆ a :* d ≈ c given b ⋆ c ≈ a) refl
        (sym (pow-add R g i (2 ^ suc k - i)) ∙ ap (pow R g) {x = i + (2 ^ suc k - i)} {y = 2 ^ suc k} (omega arith) ∙ half_way_turn k g h)
        (sym (pow-add R g i (j - i)) ∙ ap (pow R g) {x = i + (j - i)} {y = j} (omega arith)) (sym e))
