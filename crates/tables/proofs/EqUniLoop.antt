-- The recursion of `eval_eq_uni`, and the sum that it computes: 1 + Σ_{0<k<2^l} x^k · y^(2^l − k).
use mathlib.Core.Path.{◌≡◌, refl, sym, ◌∙◌, ap, ap₂}
use mathlib.Core.List.{[], ◌∷◌}
use Prim.Native.Nat.{ℕ, zero, suc, ◌+◌, ◌-◌, ◌^◌, ◌<◌}
use native.Mathlib.Nat
use native.Mathlib.Nat.{two-pow-succ}
use native.Mathlib.Omega.{arith}
use Rattle.algebra.specs.Ring.{Ring, pow}
use Rattle.algebra.specs.Sum.{sum}
use Rattle.algebra.proofs.RingLaws as Laws
use Rattle.algebra.proofs.Expression.{:0, :1, ◌:+◌, ◌:-◌, ◌:*◌, :neg, ◌:=◌, ◌given◌⋆◌≈◌}
use Rattle.algebra.proofs.Solver.{solve}
use Rattle.algebra.proofs.Sums.{sum_cong, sum_cong_below, sum-mul, sum_split, sum_first}
use Rattle.algebra.proofs.Powers.{two_pow-pos, suc_pred, pow-add}

module _ {A : Type 0} (R : Ring A) where
  infixl 60 ◌⊕◌ ◌⊖◌
  infixl 70 ◌⊗◌
  open R use {one as 𝟙, add as ◌⊕◌, mul as ◌⊗◌, neg, mul_assoc}

  abbrev ◌⊖◌ : A → A → A
  a ⊖ b = a ⊕ neg b

  -- the loop's result after l turns
  unfoldable pub eq_loop : ℕ → A → A → A
  eq_loop zero x y = 𝟙
  eq_loop (suc l) x y = (pow R x (2 ^ l) ⊕ pow R y (2 ^ l)) ⊗ eq_loop l x y ⊕ (pow R x (2 ^ l) ⊖ 𝟙) ⊗ (pow R y (2 ^ l) ⊖ 𝟙)

  -- x·y^(n − 1) + .. + x^(n − 1)·y, and with y^n in front
  abbrev mixed : ℕ → A → A → A
  mixed n x y = sum R (n - 1) (λ k. pow R x (suc k) ⊗ pow R y (n - suc k))

  cross : ℕ → A → A → A
  cross n x y = sum R n (λ k. pow R x k ⊗ pow R y (n - k))

  cross_double : (n : ℕ) (x y : A) → cross (n + n) x y ≡ (pow R x n ⊕ pow R y n) ⊗ cross n x y
  unfolding cross
  cross_double n x y =
      sum_split R n n (λ k. pow R x k ⊗ pow R y (n + n - k))
      ∙ ap₂ ◌⊕◌ (sum_cong_below R n low ∙ sum-mul R n (pow R y n) term) (sum_cong R n high ∙ sum-mul R n (pow R x n) term)
      ∙ solve R (pow R x n ∷ pow R y n ∷ sum R n term ∷ []) (λ x y c. y :* c :+ x :* c := (x :+ y) :* c) refl
    where
      term : ℕ → A
      term k = pow R x k ⊗ pow R y (n - k)

      low : (k : ℕ) → k < n → pow R x k ⊗ pow R y (n + n - k) ≡ pow R y n ⊗ term k
      low k h =
          ap (λ m. pow R x k ⊗ pow R y m) (Nat.add-sub_assoc (omega arith) n) ∙ ap (λ p. pow R x k ⊗ p) (pow-add R y n (n - k))
          ∙ solve R (pow R x k ∷ pow R y n ∷ pow R y (n - k) ∷ []) (λ x y z. x :* (y :* z) := y :* (x :* z)) refl

      high : (k : ℕ) → pow R x (n + k) ⊗ pow R y (n + n - (n + k)) ≡ pow R x n ⊗ term k
      high k = ap₂ ◌⊗◌ (pow-add R x n k) (ap (pow R y) (omega arith)) ∙ mul_assoc _ _ _

  cross_mixed : (n : ℕ) (x y : A) → 0 < n → cross n x y ≡ pow R y n ⊕ mixed n x y
  unfolding cross pow
  cross_mixed n x y h =
      ap (λ m. sum R m (λ a. pow R x a ⊗ pow R y (n - a))) (sym (suc_pred h)) ∙ sum_first R (n - 1) (λ a. pow R x a ⊗ pow R y (n - a))
      ∙ ap (λ s. s ⊕ mixed n x y) (Laws.one_mul R _ ∙ ap (pow R y) (Nat.sub-zero n))

  eq_loop_cross : (l : ℕ) (x y : A) → eq_loop l x y ≡ 𝟙 ⊕ cross (2 ^ l) x y ⊖ pow R y (2 ^ l)
  unfolding eq_loop cross sum pow
  eq_loop_cross zero x y = solve R (y ∷ []) (λ y. :1 := :1 :+ (:0 :+ :1 :* (y :* :1)) :- y :* :1) refl
  eq_loop_cross (suc l) x y =
      solve R (pow R x (2 ^ l) ∷ pow R y (2 ^ l) ∷ eq_loop l x y ∷ cross (2 ^ l) x y ∷ cross (2 ^ suc l) x y ∷ pow R y (2 ^ suc l) ∷ [])
      (λ x y e c d z. (x :+ y) :* e :+ (x :- :1) :* (y :- :1) := :1 :+ d :- z given x :+ y ⋆ e ≈ :1 :+ c :- y given :neg :1 ⋆ d ≈ (x :+ y) :* c given :1 ⋆ z ≈ y :* y)
      refl (eq_loop_cross l x y) (ap (λ n. cross n x y) (two-pow-succ l) ∙ cross_double (2 ^ l) x y) (ap (pow R y) (two-pow-succ l) ∙ pow-add R y (2 ^ l) (2 ^ l))

  pub eq_loop-sum : (l : ℕ) (x y : A) → eq_loop l x y ≡ 𝟙 ⊕ sum R (2 ^ l - 1) (λ k. pow R x (suc k) ⊗ pow R y (2 ^ l - suc k))
  eq_loop-sum l x y =
      solve R (eq_loop l x y ∷ cross (2 ^ l) x y ∷ pow R y (2 ^ l) ∷ mixed (2 ^ l) x y ∷ [])
      (λ e c z s. e := :1 :+ s given :1 ⋆ e ≈ :1 :+ c :- z given :1 ⋆ c ≈ z :+ s) refl (eq_loop_cross l x y) (cross_mixed (2 ^ l) x y (two_pow-pos l))
