-- A turn of a sum over a run's columns, from words: the power of lambda is the 2k-th, and a flag decides the second term.
use mathlib.Core.Path.{◌≡◌, refl, sym, ◌∙◌, ap, ap₂}
use mathlib.Core.List.{List, [], ◌∷◌}
use Prim.Native.Nat.{ℕ, zero, suc, ◌+◌, ◌*◌}
use native.Mathlib.Numerals.{add-one}
use native.Mathlib.Omega.{arith}
use Rattle.algebra.specs.Ring.{pow}
use Rattle.algebra.specs.Sum.{sum}
use Rattle.algebra.proofs.Expression.{:0, ◌:+◌, ◌:*◌, ◌:=◌}
use Rattle.algebra.proofs.Solver.{solve}
use Rattle.algebra.proofs.Powers.{pow-add}
use Rattle.field.specs.Element.{Elem, F, ◌⊕◌, ◌⊗◌, elem_of, words_of}
use Rattle.field.proofs.Elements.{elem_of_words}
use Rattle.weights.specs.LambdaPowers.{if_flagged}

-- the 2k-th power of lambda
pub power_start : (x : Elem) {a : List ℕ} → a ≡ words_of F.one → a ≡ words_of (pow F x (2 * 0))
unfolding pow
power_start x e = e

pub two_more : (x : Elem) (k : ℕ) → pow F x (2 * k) ⊗ (x ⊗ x) ≡ pow F x (2 * (k + 1))
unfolding pow
two_more x k =
    ap (λ v. pow F x (2 * k) ⊗ (x ⊗ v)) (sym (F.mul_one x)) ∙ sym (pow-add F x (2 * k) 2) ∙ ap (pow F x) {x = 2 * k + 2} {y = 2 * (k + 1)} (omega arith)

pub power_turn : (x : Elem) (k : ℕ) {a s b : List ℕ} → a ≡ words_of (pow F x (2 * k)) → s ≡ words_of (x ⊗ x) → b ≡ words_of (elem_of a ⊗ elem_of s) → b ≡ words_of (pow F x (2 * (k + 1)))
power_turn x k ea es eb = eb ∙ ap₂ (λ u v. words_of (u ⊗ v)) (elem_of_words _ ea) (elem_of_words _ es) ∙ ap words_of (two_more x k)

-- by the flag
pub flag_none : (f : ℕ) (x y : Elem) → f ≡ 0 → x ⊕ if_flagged F f y ≡ x
unfolding if_flagged
flag_none zero x y e = F.add_zero x
flag_none (suc f) x y e = absurd (omega arith)

pub flag_some : (f : ℕ) (y : Elem) → (f ≡ 0 → ⊥) → if_flagged F f y ≡ y
unfolding if_flagged
flag_some zero y e = absurd (e refl)
flag_some (suc f) y e = refl

-- a sum by the flag, from words
pub only_plain : (f : ℕ) (x y : Elem) {a : List ℕ} → f ≡ 0 → a ≡ words_of x → a ≡ words_of (x ⊕ if_flagged F f y)
only_plain f x y e ea = ea ∙ ap words_of (sym (flag_none f x y e))

pub with_rotated : (f : ℕ) (x y z : Elem) {a b c r : List ℕ} → (f ≡ 0 → ⊥) → a ≡ words_of x → b ≡ words_of y → c ≡ words_of (z ⊗ elem_of b) → r ≡ words_of (elem_of a ⊕ elem_of c)
    → r ≡ words_of (x ⊕ if_flagged F f (z ⊗ y))
with_rotated f x y z n ea eb ec er =
    er ∙ ap₂ (λ u v. words_of (u ⊕ v)) (elem_of_words _ ea) (elem_of_words _ ec ∙ ap (λ v. z ⊗ v) (elem_of_words _ eb) ∙ sym (flag_some f (z ⊗ y) n))

pow-suc : (x : Elem) (n : ℕ) → pow F x (suc n) ≡ x ⊗ pow F x n
unfolding pow
pow-suc x n = refl

-- the two powers of a column
pub flagged_powers : (f k : ℕ) (x a b : Elem) → pow F x (2 * k) ⊗ (a ⊕ if_flagged F f (x ⊗ b)) ≡ pow F x (2 * k) ⊗ a ⊕ if_flagged F f (pow F x (2 * k + 1)) ⊗ b
unfolding if_flagged
flagged_powers zero k x a b =
    solve F (pow F x (2 * k) ∷ a ∷ b ∷ []) (λ q a b. q :* (a :+ :0) := q :* a :+ :0 :* b) refl
flagged_powers (suc f) k x a b =
    solve F (pow F x (2 * k) ∷ x ∷ a ∷ b ∷ []) (λ q x a b. q :* (a :+ x :* b) := q :* a :+ x :* q :* b) refl
    ∙ ap (λ q. pow F x (2 * k) ⊗ a ⊕ q ⊗ b) next
  where
    next : x ⊗ pow F x (2 * k) ≡ pow F x (2 * k + 1)
    next = sym (pow-suc x (2 * k)) ∙ ap (pow F x) (sym (add-one (2 * k)))

-- a sum's turn, from words
pub sum_start : (f : ℕ → Elem) {a : List ℕ} → a ≡ words_of F.zero → a ≡ words_of (sum F 0 f)
unfolding sum
sum_start f e = e

pub sum_turn : (f : ℕ → Elem) (k : ℕ) {a b c : List ℕ} → a ≡ words_of (sum F k f) → b ≡ words_of (f k) → c ≡ words_of (elem_of a ⊕ elem_of b) → c ≡ words_of (sum F (k + 1) f)
unfolding sum
sum_turn f k ea eb ec =
    ec ∙ ap₂ (λ u v. words_of (u ⊕ v)) (elem_of_words _ ea) (elem_of_words _ eb) ∙ ap (λ n. words_of (sum F n f)) (sym (add-one k))
