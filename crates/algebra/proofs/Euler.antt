-- Modulo a prime: numbers as classes, Fermat's little theorem for every class, and the half of Euler's criterion that tells a non-square.
use mathlib.Core.Path.{◌≡◌, refl, sym, ◌∙◌, ap, subst}
use mathlib.Core.Logic.{◌≢◌}
use mathlib.Core.List.{[], ◌∷◌}
use Prim.Native.Nat.{ℕ, zero, suc, pred, ◌+◌, ◌<◌}
use native.Mathlib.Nat
use native.Mathlib.Numerals.{add-one}
use native.Mathlib.Omega.{arith}
use Rattle.algebra.specs.Ring.{Ring, num, pow}
use Rattle.algebra.specs.Prime.{Prime}
use Rattle.algebra.specs.Zmod.{Zmod, class}
use Rattle.algebra.proofs.RingLaws as Laws
use Rattle.algebra.proofs.Expression.{:0, :1, ◌:+◌, ◌:*◌, :neg, ◌:=◌, ◌given◌⋆◌≈◌}
use Rattle.algebra.proofs.Solver.{solve}
use Rattle.algebra.proofs.Powers.{pow-add, pow-mul}
use Rattle.algebra.proofs.Fermat.{fermat}
use Rattle.algebra.proofs.Fields.{field_domain}
use Rattle.algebra.proofs.ZmodRing.{Zring, class_val, class-add, class_self}
use Rattle.algebra.proofs.Primes.{zmod_field}

pub num-class : (m : ℕ) (pos : 0 < m) (n : ℕ) → num (Zring m pos) n ≡ class m pos n
unfolding num
num-class m pos zero = refl
num-class m pos (suc n) =
    ap (λ x. (Zring m pos).add (class m pos 1) x) (num-class m pos n) ∙ class-add m pos 1 n ∙ ap (class m pos) (Nat.add_comm 1 n ∙ add-one n)

module _ (p : ℕ) (pos : 0 < p) (prime : Prime p) where
  abbrev R : Ring (Zmod p)
  R = Zring p pos

  infixl 60 ◌⊕◌
  infixl 70 ◌⊗◌
  open R use {zero as 𝟘, one as 𝟙, add as ◌⊕◌, mul as ◌⊗◌, neg}

  pub class_ne_zero : (k : ℕ) → 0 < k → k < p → class p pos k ≢ (Zring p pos).zero
  unfolding class
  class_ne_zero k h l e =
      let z : k ≡ 0 = sym (Nat.mod-eq_of_lt l) ∙ ap (λ (x : Zmod p). x.0) e ∙ Nat.zero-mod p in omega arith

  fermat_little : (x : Zmod p) → pow R x p ≡ x
  fermat_little x = go (pred p) (Nat.suc-pred-eq_of_pos pos)
    where
      go : (q : ℕ) → suc q ≡ p → pow R x p ≡ x
      go q e =
          subst (λ k. pow R x k ≡ x) e
          (subst (λ y. pow R y (suc q) ≡ y) (num-class p pos x.0 ∙ class_val p pos x)
          (fermat R (field_domain (zmod_field p pos prime)) q (ap (num R) e ∙ num-class p pos p ∙ class_self p pos)
          (λ k h l z. class_ne_zero k h (subst (λ m. k < m) e l) (sym (num-class p pos k) ∙ z)) x.0))

  -- a power of w by (p − 1) / 2 that is −1
  pub nonsquare_by_power : (w : Zmod p) (h : ℕ) → p ≡ suc (h + h) → 2 < p → w ≢ (Zring p pos).zero
      → pow (Zring p pos) w h ≡ (Zring p pos).neg (Zring p pos).one
      → (t : Zmod p) → (Zring p pos).mul t t ≢ w
  unfolding pow
  nonsquare_by_power w h odd two w≢0 e t s =
      let r : t ≡ t ⊗ pow R w h =
      sym (fermat_little t) ∙ ap (pow R t) odd ∙ ap (λ x. t ⊗ x) (pow-add R t h h ∙ sym (pow-mul R t t h) ∙ ap (λ x. pow R x h) s) in
      let d : (𝟙 ⊕ 𝟙) ⊗ t ≡ 𝟘 =
      solve R (t ∷ pow R w h ∷ []) (λ t x. (:1 :+ :1) :* t := :0 given :1 ⋆ t ≈ t :* x given t ⋆ x ≈ :neg :1) refl r e in
      let z : t ≡ 𝟘 =
      field_domain (zmod_field p pos prime) (𝟙 ⊕ 𝟙) t (λ q. class_ne_zero 2 (omega arith) two (sym (class-add p pos 1 1) ∙ q)) d in
      w≢0 (sym s ∙ ap (λ x. x ⊗ t) z ∙ Laws.zero-mul R t)
