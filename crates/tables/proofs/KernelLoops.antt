-- The turns of the loops that compute kernels, over plain variables: each from what the calls in the loop ensure.
use mathlib.Core.Path.{◌≡◌, refl, sym, ◌∙◌, ap, ap₂}
use mathlib.Core.List.{List, [], ◌∷◌}
use Prim.Native.Nat.{ℕ, zero, suc, ◌+◌, ◌-◌, ◌^◌, ◌≤◌}
use native.Mathlib.Numerals.{add-one}
use native.Mathlib.Omega.{arith}
use Rattle.algebra.specs.Ring.{pow}
use Rattle.algebra.specs.Sum.{product}
use Rattle.algebra.specs.Listed.{listed}
use Rattle.algebra.proofs.RingLaws as Laws
use Rattle.algebra.proofs.Expression.{:1, ◌:+◌, ◌:-◌, ◌:*◌, ◌:=◌}
use Rattle.algebra.proofs.Solver.{solve}
use Rattle.algebra.proofs.Sums.{product_first}
use Rattle.field.specs.Element.{Elem, F, ◌⊕◌, ◌⊖◌, ◌⊗◌, half_elem, elem_of, words_of}
use Rattle.field.proofs.Elements.{elem_of_words, elem_of_words_of}
use Rattle.tables.specs.EqMle.{eq_mle}
use Rattle.tables.proofs.EqUniLoop.{eq_loop}

-- halving
pub halved_never : (x : Elem) {a : List ℕ} → a ≡ words_of x → a ≡ words_of (pow F half_elem 0 ⊗ x)
unfolding pow
halved_never x e = e ∙ ap words_of (sym (Laws.one_mul F x))

pub halved_once : (x : Elem) (i : ℕ) {a b : List ℕ} → a ≡ words_of (pow F half_elem i ⊗ x) → b ≡ words_of (half_elem ⊗ elem_of a) → b ≡ words_of (pow F half_elem (i + 1) ⊗ x)
unfolding pow
halved_once x i e f =
    f ∙ ap (λ v. words_of (half_elem ⊗ v)) (elem_of_words _ e) ∙ ap words_of (sym (F.mul_assoc half_elem (pow F half_elem i) x))
    ∙ ap (λ n. words_of (pow F half_elem n ⊗ x)) (sym (add-one i))

-- the eq kernel as a product over the coordinates
abbrev pub eq_factor : Elem → Elem → Elem
eq_factor x y = x ⊗ y ⊕ (F.one ⊖ x) ⊗ (F.one ⊖ y)

pub eq_mle-listed : (m : ℕ) (f g : ℕ → Elem) → eq_mle F (listed m f) (listed m g) ≡ product F m (λ k. eq_factor (f k) (g k))
unfolding eq_mle listed product
eq_mle-listed zero f g = refl
eq_mle-listed (suc m) f g =
    ap (λ v. eq_factor (f 0) (g 0) ⊗ v) (eq_mle-listed m (λ k. f (suc k)) (λ k. g (suc k))) ∙ sym (product_first F m (λ k. eq_factor (f k) (g k)))

eq_factor_is : (x y : Elem) → F.one ⊖ y ⊖ x ⊕ (x ⊗ y ⊕ x ⊗ y) ≡ eq_factor x y
eq_factor_is x y = solve F (x ∷ y ∷ []) (λ x y. :1 :- y :- x :+ (x :* y :+ x :* y) := x :* y :+ (:1 :- x) :* (:1 :- y)) refl

-- the factor that is computed from two words
pub eq_factor_words : (x y : Elem) {a b c : List ℕ} → a ≡ words_of x → b ≡ words_of y
    → c ≡ words_of (F.one ⊖ elem_of b ⊖ elem_of a ⊕ (elem_of a ⊗ elem_of b ⊕ elem_of a ⊗ elem_of b)) → c ≡ words_of (eq_factor x y)
eq_factor_words x y e f g =
    g ∙ ap₂ (λ u v. words_of (F.one ⊖ v ⊖ u ⊕ (u ⊗ v ⊕ u ⊗ v))) (elem_of_words x e) (elem_of_words y f) ∙ ap words_of (eq_factor_is x y)

pub product_start : (f : ℕ → Elem) {a : List ℕ} → a ≡ words_of F.one → a ≡ words_of (product F 0 f)
unfolding product
product_start f e = e

pub product_turn : (f : ℕ → Elem) (j : ℕ) {a b c : List ℕ} → a ≡ words_of (product F j f) → b ≡ words_of (f j) → c ≡ words_of (elem_of a ⊗ elem_of b) → c ≡ words_of (product F (j + 1) f)
unfolding product
product_turn f j e g h =
    h ∙ ap₂ (λ u v. words_of (u ⊗ v)) (elem_of_words _ e) (elem_of_words _ g) ∙ ap (λ n. words_of (product F n f)) (sym (add-one j))

-- the same where the factors are counted from i on
pub product_from : (f : ℕ → Elem) (i k : ℕ) {a : List ℕ} → i ≤ k → a ≡ words_of (product F (k - i) (λ j. f (i + j))) → words_of (elem_of a ⊗ f k) ≡ words_of (product F (k + 1 - i) (λ j. f (i + j)))
product_from f i k {a} h e =
    ap (λ v. words_of (elem_of a ⊗ v)) (sym (elem_of_words_of (f k)))
    ∙ product_turn (λ j. f (i + j)) (k - i) e (ap (λ n. words_of (f n)) {x = k} {y = i + (k - i)} (omega (arith, h))) refl
    ∙ ap (λ n. words_of (product F n (λ j. f (i + j)))) {x = k - i + 1} {y = k + 1 - i} (omega (arith, h))

pub product_none : (f : ℕ → Elem) (i : ℕ) {a : List ℕ} → a ≡ words_of F.one → a ≡ words_of (product F (i - i) f)
product_none f i e = product_start f e ∙ ap (λ n. words_of (product F n f)) {x = 0} {y = i - i} (omega arith)

-- the univariate kernel
pub eq_uni_start : (x y : Elem) {a : List ℕ} → a ≡ words_of F.one → a ≡ words_of (eq_loop F 0 x y)
unfolding eq_loop
eq_uni_start x y e = e

pub eq_uni_turn : (x y : Elem) (i : ℕ) {a b c r : List ℕ} → a ≡ words_of (eq_loop F i x y) → b ≡ words_of (pow F x (2 ^ i)) → c ≡ words_of (pow F y (2 ^ i))
    → r ≡ words_of ((elem_of b ⊕ elem_of c) ⊗ elem_of a ⊕ (elem_of b ⊖ F.one) ⊗ (elem_of c ⊖ F.one)) → r ≡ words_of (eq_loop F (i + 1) x y)
unfolding eq_loop
eq_uni_turn x y i {a} e f g h =
    h
    ∙ ap₂ (λ u v. words_of ((u ⊕ v) ⊗ elem_of a ⊕ (u ⊖ F.one) ⊗ (v ⊖ F.one))) (elem_of_words _ f) (elem_of_words _ g)
    ∙ ap (λ w. words_of ((pow F x (2 ^ i) ⊕ pow F y (2 ^ i)) ⊗ w ⊕ (pow F x (2 ^ i) ⊖ F.one) ⊗ (pow F y (2 ^ i) ⊖ F.one))) (elem_of_words _ e)
    ∙ ap (λ n. words_of (eq_loop F n x y)) (sym (add-one i))

-- 1 + x from words
pub one_more : (o x : Elem) {a b r : List ℕ} → a ≡ words_of o → b ≡ words_of x → r ≡ words_of (elem_of a ⊕ elem_of b) → r ≡ words_of (o ⊕ x)
one_more o x e f g = g ∙ ap₂ (λ u v. words_of (u ⊕ v)) (elem_of_words o e) (elem_of_words x f)
