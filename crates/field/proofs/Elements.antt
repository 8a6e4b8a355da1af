-- Elements and their words: each can be had from the other, and products by their words.
use mathlib.Core.Path.{◌≡◌, refl, sym, ◌∙◌, ap}
use mathlib.Core.List.{List, [], ◌∷◌}
use Prim.Native.Nat.{ℕ, ◌+◌, ◌*◌, ◌%◌, ◌^◌, ◌<◌}
use native.Mathlib.Nat.{mod-eq_of_lt, two-pow-succ}
use native.Mathlib.Numerals.{add-one}
use lib.ListN.{length}
use Rattle.algebra.specs.Ring.{pow}
use Rattle.algebra.proofs.QuadraticRing.{pair, quadratic, scale_is}
use Rattle.algebra.proofs.Expression.{◌:+◌, ◌:*◌, ◌:=◌, ◌given◌⋆◌≈◌}
use Rattle.algebra.proofs.Solver.{solve}
use Rattle.algebra.proofs.Powers.{pow-add}
use Rattle.algebra.proofs.ZmodRing.{class-add, class-mul}
use Rattle.field.specs.Word.{p, p-pos, Word, Fp, word_of, number}
use Rattle.field.specs.Element.{Elem, F, elem, ◌⊗◌, from_word, elem_of, words_of, product_is}
use Rattle.field.specs.Canonical.{Canonical}
use Rattle.field.proofs.Residues.{number_word_of, word_of_number}

-- four words, one for each coefficient
pub words_of_lem : (a₀ a₁ a₂ a₃ : Word) {r₀ r₁ r₂ r₃ : ℕ} → r₀ ≡ number a₀ → r₁ ≡ number a₁ → r₂ ≡ number a₂ → r₃ ≡ number a₃
    → r₀ ∷ r₁ ∷ r₂ ∷ r₃ ∷ [] ≡ words_of (elem a₀ a₁ a₂ a₃)
unfolding words_of
words_of_lem a₀ a₁ a₂ a₃ e₀ e₁ e₂ e₃ = cc

pub elem_of_words_of : (x : Elem) → elem_of (words_of x) ≡ x
unfolding elem_of words_of
elem_of_words_of ((a, c), (b, d)) = pair (pair (word_of_number a) (word_of_number c)) (pair (word_of_number b) (word_of_number d))

pub canonical_words_of : (x : Elem) → Canonical (words_of x)
unfolding words_of
canonical_words_of ((a, c), (b, d)) = record { w0 = a.1; w1 = b.1; w2 = c.1; w3 = d.1 }

-- the same of a list that is an element's words
pub elem_of_words : (x : Elem) {r : List ℕ} → r ≡ words_of x → elem_of r ≡ x
elem_of_words x e = ap elem_of e ∙ elem_of_words_of x

pub words_own : (x : Elem) {r : List ℕ} → r ≡ words_of x → r ≡ words_of (elem_of r)
words_own x e = e ∙ ap words_of (sym (elem_of_words x e))

pub canonical_words_lem : (x : Elem) {r : List ℕ} → r ≡ words_of x → Canonical r
canonical_words_lem x e = rw e (canonical_words_of x)

pub length_words_of : (x : Elem) → length (words_of x) ≡ 4
unfolding words_of
length_words_of ((a, c), (b, d)) = refl

pub words_of_elem_of : (a b c d : ℕ) → a < p → b < p → c < p → d < p → words_of (elem_of (a ∷ b ∷ c ∷ d ∷ [])) ≡ a ∷ b ∷ c ∷ d ∷ []
unfolding elem_of
words_of_elem_of a b c d ha hb hc hd =
    sym
    (words_of_lem (word_of a) (word_of b) (word_of c) (word_of d) (sym (number_word_of a ∙ mod-eq_of_lt ha)) (sym (number_word_of b ∙ mod-eq_of_lt hb))
    (sym (number_word_of c ∙ mod-eq_of_lt hc)) (sym (number_word_of d ∙ mod-eq_of_lt hd)))

-- an element scaled by a word
pub scaled : (x a₀ a₁ a₂ a₃ : Word)
    → from_word x ⊗ elem a₀ a₁ a₂ a₃ ≡ elem (Fp.mul x a₀) (Fp.mul x a₁) (Fp.mul x a₂) (Fp.mul x a₃)
scaled x a₀ a₁ a₂ a₃ =
    scale_is (quadratic Fp (word_of 11)) (Fp.zero, Fp.one) (x, Fp.zero) ((a₀, a₂), (a₁, a₃))
    ∙ pair (scale_is Fp (word_of 11) x (a₀, a₂)) (scale_is Fp (word_of 11) x (a₁, a₃))

-- a sum of four products of numbers, as words
module _ (a₀ a₁ a₂ a₃ b₀ b₁ b₂ b₃ : ℕ) where
  infixl 60 ◌+ₚ◌
  infixl 70 ◌·ₚ◌
  open Fp use {add as ◌+ₚ◌, mul as ◌·ₚ◌}

  pub dot_word : {r : ℕ} → r ≡ (a₀ * b₀ + a₁ * b₁ + a₂ * b₂ + a₃ * b₃) % p
      → r ≡ number (word_of a₀ ·ₚ word_of b₀ +ₚ word_of a₁ ·ₚ word_of b₁ +ₚ word_of a₂ ·ₚ word_of b₂ +ₚ word_of a₃ ·ₚ word_of b₃)
  dot_word e = e ∙ sym (number_word_of (a₀ * b₀ + a₁ * b₁ + a₂ * b₂ + a₃ * b₃)) ∙ ap (λ x. number x) (sym joined)
    where
      joined : word_of a₀ ·ₚ word_of b₀ +ₚ word_of a₁ ·ₚ word_of b₁ +ₚ word_of a₂ ·ₚ word_of b₂ +ₚ word_of a₃ ·ₚ word_of b₃ ≡ word_of (a₀ * b₀ + a₁ * b₁ + a₂ * b₂ + a₃ * b₃)
      joined = simp (class-mul p p-pos, class-add p p-pos)

-- the product's words, with the words that come round taken 11 times before
module _ (a₀ a₁ a₂ a₃ b₀ b₁ b₂ b₃ v₁ v₂ v₃ : ℕ) where
  abbrev w : ℕ → Word
  w n = word_of n

  turned : (b v : ℕ) → v ≡ number (Fp.mul (word_of 11) (word_of b)) → word_of v ≡ Fp.mul (word_of 11) (word_of b)
  turned b v e = ap (λ n. word_of n) e ∙ word_of_number _

  pub product_words : {r₀ r₁ r₂ r₃ : ℕ}
      → v₁ ≡ number (Fp.mul (word_of 11) (word_of b₁))
      → v₂ ≡ number (Fp.mul (word_of 11) (word_of b₂))
      → v₃ ≡ number (Fp.mul (word_of 11) (word_of b₃))
      → r₀ ≡ (a₀ * b₀ + a₁ * v₃ + a₂ * v₂ + a₃ * v₁) % p
      → r₁ ≡ (a₀ * b₁ + a₁ * b₀ + a₂ * v₃ + a₃ * v₂) % p
      → r₂ ≡ (a₀ * b₂ + a₁ * b₁ + a₂ * b₀ + a₃ * v₃) % p
      → r₃ ≡ (a₀ * b₃ + a₁ * b₂ + a₂ * b₁ + a₃ * b₀) % p
      → r₀ ∷ r₁ ∷ r₂ ∷ r₃ ∷ []
      ≡ words_of (elem (word_of a₀) (word_of a₁) (word_of a₂) (word_of a₃) ⊗ elem (word_of b₀) (word_of b₁) (word_of b₂) (word_of b₃))
  product_words e₁ e₂ e₃ f₀ f₁ f₂ f₃ =
      words_of_lem _ _ _ _
      (dot_word a₀ a₁ a₂ a₃ b₀ v₃ v₂ v₁ f₀
      ∙ ap (λ x. number x)
      (solve Fp (w a₀ ∷ w a₁ ∷ w a₂ ∷ w a₃ ∷ w b₀ ∷ w b₁ ∷ w b₂ ∷ w b₃ ∷ w 11 ∷ w v₁ ∷ w v₂ ∷ w v₃ ∷ [])
      (λ a₀ a₁ a₂ a₃ b₀ b₁ b₂ b₃ t v₁ v₂ v₃.
      a₀ :* b₀ :+ a₁ :* v₃ :+ a₂ :* v₂ :+ a₃ :* v₁ := a₀ :* b₀ :+ t :* (a₁ :* b₃ :+ a₂ :* b₂ :+ a₃ :* b₁)
      given a₃ ⋆ v₁ ≈ t :* b₁ given a₂ ⋆ v₂ ≈ t :* b₂ given a₁ ⋆ v₃ ≈ t :* b₃)
      refl (turned b₁ v₁ e₁) (turned b₂ v₂ e₂) (turned b₃ v₃ e₃)))
      (dot_word a₀ a₁ a₂ a₃ b₁ b₀ v₃ v₂ f₁
      ∙ ap (λ x. number x)
      (solve Fp (w a₀ ∷ w a₁ ∷ w a₂ ∷ w a₃ ∷ w b₀ ∷ w b₁ ∷ w b₂ ∷ w b₃ ∷ w 11 ∷ w v₂ ∷ w v₃ ∷ [])
      (λ a₀ a₁ a₂ a₃ b₀ b₁ b₂ b₃ t v₂ v₃.
      a₀ :* b₁ :+ a₁ :* b₀ :+ a₂ :* v₃ :+ a₃ :* v₂ := a₀ :* b₁ :+ a₁ :* b₀ :+ t :* (a₂ :* b₃ :+ a₃ :* b₂)
      given a₃ ⋆ v₂ ≈ t :* b₂ given a₂ ⋆ v₃ ≈ t :* b₃)
      refl (turned b₂ v₂ e₂) (turned b₃ v₃ e₃)))
      (dot_word a₀ a₁ a₂ a₃ b₂ b₁ b₀ v₃ f₂
      ∙ ap (λ x. number x)
      (solve Fp (w a₀ ∷ w a₁ ∷ w a₂ ∷ w a₃ ∷ w b₀ ∷ w b₁ ∷ w b₂ ∷ w b₃ ∷ w 11 ∷ w v₃ ∷ [])
      (λ a₀ a₁ a₂ a₃ b₀ b₁ b₂ b₃ t v₃.
      a₀ :* b₂ :+ a₁ :* b₁ :+ a₂ :* b₀ :+ a₃ :* v₃ := a₀ :* b₂ :+ a₁ :* b₁ :+ a₂ :* b₀ :+ t :* (a₃ :* b₃) given a₃ ⋆ v₃ ≈ t :* b₃)
      refl (turned b₃ v₃ e₃)))
      (dot_word a₀ a₁ a₂ a₃ b₃ b₂ b₁ b₀ f₃)
      ∙ ap words_of (sym (product_is (word_of a₀) (word_of a₁) (word_of a₂) (word_of a₃) (word_of b₀) (word_of b₁) (word_of b₂) (word_of b₃)))

-- one squaring more
pub squared_once : (x : Elem) (i : ℕ) {y z : List ℕ} → y ≡ words_of (pow F x (2 ^ i)) → z ≡ words_of (elem_of y ⊗ elem_of y) → z ≡ words_of (pow F x (2 ^ (i + 1)))
squared_once x i e f =
    f ∙ ap (λ v. words_of (v ⊗ v)) (elem_of_words (pow F x (2 ^ i)) e) ∙ ap words_of (sym (pow-add F x (2 ^ i) (2 ^ i)) ∙ ap (pow F x) (sym (ap (λ n. 2 ^ n) (add-one i) ∙ two-pow-succ i)))

-- no squaring yet
pub squared_never : (x : Elem) {r : List ℕ} → r ≡ words_of x → r ≡ words_of (pow F x (2 ^ 0))
unfolding pow
squared_never x e = e ∙ ap words_of (sym (F.mul_one x))
