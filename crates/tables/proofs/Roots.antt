-- Generators of order 2^l: the powers repeat, a power generates a smaller subgroup, the inverse is a generator.
use mathlib.Core.Path.{◌≡◌, refl, sym, ◌∙◌, ap, subst}
use mathlib.Core.List.{[], ◌∷◌}
use Prim.Native.Nat.{ℕ, zero, suc, ◌+◌, ◌*◌, ◌-◌, ◌^◌}
use native.Mathlib.Nat
use native.Mathlib.Nat.{two-pow-succ}
use Rattle.algebra.specs.Ring.{Ring, pow}
use Rattle.algebra.proofs.Expression.{:1, ◌:-◌, ◌:*◌, :neg, ◌:=◌, ◌given◌⋆◌≈◌}
use Rattle.algebra.proofs.Solver.{solve}
use Rattle.algebra.proofs.Powers.{two_pow-pos, two_pow-add, suc_pred, pow-add, pow-mul, pow-pow, pow-inverse, pow_is_one}
use Rattle.tables.specs.Root.{IsRoot, Skip}

module _ {A : Type 0} (R : Ring A) where
  infixl 70 ◌⊗◌
  open R use {one as 𝟙, mul as ◌⊗◌, mul_one}

  pub root_power : (l : ℕ) (w : A) → IsRoot R l w → pow R w (2 ^ l) ≡ 𝟙
  unfolding pow
  root_power zero w r = mul_one w ∙ r
  root_power (suc l) w r =
      ap (pow R w) (two-pow-succ l) ∙ pow-add R w (2 ^ l) (2 ^ l)
      ∙ solve R (pow R w (2 ^ l) ∷ []) (λ p. p :* p := :1 given p :- :1 ⋆ p ≈ :neg :1) refl r

  -- the powers repeat
  pub root_period : (l : ℕ) (w : A) → IsRoot R l w → (i j : ℕ) → pow R w (i + 2 ^ l * j) ≡ pow R w i
  root_period l w root i j = pow-add R w i (2 ^ l * j) ∙ ap (λ x. pow R w i ⊗ x) (pow_is_one R w (2 ^ l) j (root_power l w root)) ∙ mul_one _

  -- the power 2^d of a generator of order 2^(l + d) has order 2^l
  pub root_raise : (l d : ℕ) (w : A) → IsRoot R (l + d) w → IsRoot R l (pow R w (2 ^ d))
  root_raise zero d w r = root_power d w (subst (λ n. IsRoot R n w) (Nat.zero-add d) r)
  root_raise (suc l) d w r =
      pow-pow R w (2 ^ d) (2 ^ l) ∙ ap (pow R w) (sym (two_pow-add d l) ∙ ap (λ n. 2 ^ n) (Nat.add_comm d l))
      ∙ subst (λ n. IsRoot R n w) (Nat.suc-add l d) r

  pub root_square : (l : ℕ) (w : A) → IsRoot R (suc l) w → IsRoot R l (w ⊗ w)
  unfolding pow
  root_square zero w r = solve R (w ∷ []) (λ w. w :* w := :1 given w :- :1 ⋆ w :* :1 ≈ :neg :1) refl r
  root_square (suc l) w r = pow-mul R w w (2 ^ l) ∙ sym (pow-add R w (2 ^ l) (2 ^ l)) ∙ ap (pow R w) (sym (two-pow-succ l)) ∙ r

  pub root-inverse : (l : ℕ) (w v : A) → w ⊗ v ≡ 𝟙 → IsRoot R l w → IsRoot R l v
  root-inverse zero w v e r = solve R (w ∷ v ∷ []) (λ w v. v := :1 given :1 ⋆ w :* v ≈ :1 given :neg v ⋆ w ≈ :1) refl e r
  root-inverse (suc l) w v e r =
      solve R (pow R w (2 ^ l) ∷ pow R v (2 ^ l) ∷ []) (λ a b. b := :neg :1 given :neg :1 ⋆ a :* b ≈ :1 given b ⋆ a ≈ :neg :1) refl (pow-inverse R w v (2 ^ l) e) r

  -- 1/w
  unfoldable pub inverse : ℕ → A → A
  inverse l w = pow R w (2 ^ l - 1)

  pub mul-inverse : (l : ℕ) (w : A) → IsRoot R l w → w ⊗ inverse l w ≡ 𝟙
  unfolding inverse pow
  mul-inverse l w r = ap (pow R w) (suc_pred (two_pow-pos l)) ∙ root_power l w r

module _ {A : Type 0} {R : Ring A} {half w : A} where
  -- the smaller subgroup of the raised generator
  pub skip_raise : (h d : ℕ) → Skip R half (h + d) w → Skip R half h (pow R w (2 ^ d))
  skip_raise h d s = record { half_two = s.half_two; root = root_raise R h d w s.root }

  pub skip_comm : (h d : ℕ) → Skip R half (h + d) w → Skip R half (d + h) w
  skip_comm h d s = subst (λ n. Skip R half n w) (Nat.add_comm h d) s
