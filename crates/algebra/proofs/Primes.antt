-- Primes by trial division, which the checker computes; and modulo a prime the integers are a field.
use mathlib.Core.Path.{◌≡◌, refl, sym, ◌∙◌, ap, subst}
use mathlib.Core.Logic.{◌≢◌}
use mathlib.Core.List.{[], ◌∷◌}
use mathlib.Core.Bool.{Bool, true, false}
use Prim.Native.Nat.{ℕ, zero, suc, ◌+◌, ◌*◌, ◌%◌, ◌/◌, ◌<◌, ◌≤◌}
use native.Mathlib.Nat
use native.Mathlib.Nat.{mod-lt, mod-eq_of_lt, mul-mod_left, div-add-mod', mul-le-mul_left, mul-le-mul_right, le_trans, zero-mod, pos_of_ne-zero}
use native.Mathlib.Omega.{arith}
use native.Mathlib.Decide.{dec_le, ℕ_discrete, Fin-discrete}
use lib.Dec.{T, eqb, eqb_refl}
use Rattle.algebra.specs.Ring.{Ring, IsField}
use Rattle.algebra.specs.Prime.{Prime}
use Rattle.algebra.specs.Zmod.{Zmod, class}
use Rattle.algebra.proofs.Expression.{pick, :0, :1, ◌:+◌, ◌:*◌, :neg, ◌:=◌, ◌given◌⋆◌≈◌}
use Rattle.algebra.proofs.Solver.{solve}
use Rattle.algebra.proofs.ZmodRing.{Zring, class_val, class-add, class-mul, class_self}

-- none of 2 .. k + 1 divides p
abbrev pub no_divisor : ℕ → ℕ → Bool
no_divisor p zero = true
no_divisor p (suc k) = pick (eqb (p % suc (suc k)) 0) (λ _. false) (λ _. no_divisor p k)

passed : (b c : Bool) → T (pick b (λ _. false) (λ _. c)) → (T b → ⊥) × T c
passed true c t = elim t [ ]
passed false c t = ((λ z. z), t)

below : (p k : ℕ) → T (no_divisor p k) → (a : ℕ) → 1 < a → a < k + 2 → p % a ≢ 0
below p zero t a l h e = omega arith
below p (suc k) t a l h e =
    let (n, r) = passed (eqb (p % suc (suc k)) 0) (no_divisor p k) t in
    last n (below p k r a l) (ℕ_discrete a (suc (suc k)))
  where
    last : (T (eqb (p % suc (suc k)) 0) → ⊥) → (a < k + 2 → p % a ≢ 0) → Dec (a ≡ suc (suc k)) → ⊥
    last n ih (yes q) = n (subst (λ x. T (eqb x 0)) (sym e ∙ ap (λ x. p % x) q) (eqb_refl 0))
    last n ih (no q) = ih (omega arith) e

-- trial division up to the root
pub prime_by_trial : (p k : ℕ) → 1 < p → p < (k + 2) * (k + 2) → T (no_divisor p k) → Prime p
prime_by_trial p k one root t = record { above_one = one; no_divisor_lem = go }
  where
    large : (a : ℕ) → 1 < a → a < p → p % a ≡ 0 → k + 2 ≤ a → ⊥
    large a l h e g =
        let q : ℕ = p / a in
        let split : q * a ≡ p = sym (Nat.add-zero (q * a)) ∙ ap (λ x. q * a + x) (sym e) ∙ div-add-mod' p a in
        let q-div : p % q ≡ 0 = ap (λ x. x % q) (sym split ∙ Nat.mul_comm q a) ∙ mul-mod_left a q in
        cases q split q-div (dec_le (k + 2) q) (dec_le 2 q)
      where
        cases : (q : ℕ) → q * a ≡ p → p % q ≡ 0 → Dec (k + 2 ≤ q) → Dec (2 ≤ q) → ⊥
        cases q s d (yes b) c =
            let m : (k + 2) * (k + 2) ≤ q * a = le_trans (mul-le-mul_left (k + 2) g) (mul-le-mul_right a b) in omega arith
        cases q s d (no b) (yes c) = below p k t q c (omega arith) d
        cases zero s d (no b) (no c) = let z : 0 ≡ p = sym (Nat.zero-mul a) ∙ s in omega arith
        cases (suc zero) s d (no b) (no c) = let z : a ≡ p = sym (Nat.one-mul a) ∙ s in omega arith
        cases (suc (suc q)) s d (no b) (no c) = c (omega arith)

    go : (a : ℕ) → 1 < a → a < p → p % a ≢ 0
    go a l h e = pick_d (dec_le (k + 2) a)
      where
        pick_d : Dec (k + 2 ≤ a) → ⊥
        pick_d (yes g) = large a l h e g
        pick_d (no g) = below p k t a l (omega arith) e

module _ (p : ℕ) (pos : 0 < p) (prime : Prime p) where
  abbrev R : Ring (Zmod p)
  R = Zring p pos

  abbrev residue : ℕ → Zmod p
  residue = class p pos

  -- from p = (p / a) · a + p % a and the inverse of the remainder
  inverse-below : (fuel a : ℕ) → a ≤ fuel → 0 < a → a < p → (y : Zmod p) × (R.mul (residue a) y ≡ residue 1)
  inverse-below zero a l z h = absurd (omega arith)
  inverse-below (suc fuel) a l z h = step (dec_le 2 a) (inverse-below fuel)
    where
      step : Dec (2 ≤ a) → ((a : ℕ) → a ≤ fuel → 0 < a → a < p → (y : Zmod p) × (R.mul (residue a) y ≡ residue 1)) → (y : Zmod p) × (R.mul (residue a) y ≡ residue 1)
      step (no g) ih = (residue 1, ap (λ x. R.mul (residue x) (residue 1)) {x = a} {y = 1} (omega arith) ∙ class-mul p pos 1 1)
      step (yes g) ih =
          let r : ℕ = p % a in
          let q : ℕ = p / a in
          let r_small : r < a = mod-lt p z in
          let r-pos : 0 < r = pos_of_ne-zero (prime.no_divisor_lem a g h) in
          let (c, e) = ih r (omega arith) r-pos (omega arith) in
          let zero-sum : R.add (R.mul (residue q) (residue a)) (residue r) ≡ residue 0 =
          ap (λ x. R.add x (residue r)) (class-mul p pos q a) ∙ class-add p pos (q * a) r ∙ ap residue (div-add-mod' p a) ∙ class_self p pos in (
            R.mul (R.neg (residue q)) c,
            solve R (residue a ∷ residue q ∷ residue r ∷ c ∷ []) (λ a q r c. a :* (:neg q :* c) := :1 given :neg c ⋆ q :* a :+ r ≈ :0 given :1 ⋆ r :* c ≈ :1) refl zero-sum e,
          )

  one_ne_zero : residue 1 ≢ residue 0
  unfolding class
  one_ne_zero e =
      let h : 1 < p = prime.above_one in
      let f : 1 % p ≡ 0 % p = ap (λ (x : Zmod p). x.0) e in
      omega (arith, mod-eq_of_lt {n = 1} h, zero-mod p)

  pub zmod_field : IsField (Zring p pos)
  zmod_field = record {
    one_ne_zero = one_ne_zero;
    zero? = λ x. Fin-discrete p x (residue 0);
    inverse = λ x n.
        let (y, e) = inverse-below x.0 x.0 (Nat.le_refl x.0) (pos_of_ne-zero (λ z. n (sym (class_val p pos x) ∙ ap residue z))) x.1 in
        (y, ap (λ u. R.mul u y) (sym (class_val p pos x)) ∙ e);
  }
