-- Sums, differences and products of elements from words below p.
use Rattle.std.proofs.Common.{◌≡◌, ℕ, ◌+◌, ◌-◌, ◌*◌, ◌/◌, ◌%◌, ◌<◌, ◌≤◌, List, get_or, sym, refl, ap, ◌∙◌, mod-eq_of_lt, arith}
use native.Mathlib.Decide.{dec_le}
use Rattle.algebra.specs.Quadratic.{qadd, qneg}
use Rattle.algebra.proofs.RingLaws.{zero-add}
use Rattle.algebra.proofs.ZmodRing.{class-add}
use Rattle.field.specs.Word.{p, p-pos, Word, Fp, word_of, number}
use Rattle.field.specs.Element.{Elem, F, ◌⊕◌, ◌⊖◌, ◌⊗◌, elem_of, words_of}
use Rattle.field.proofs.Elements.{words_of_lem, product_words, elem_of_words}
use Rattle.field.proofs.Residues.{word_of_number, number_word_of, sum-residue, neg-residue}
use Rattle.prover.proofs.Numbers.{four, residue, reduced, elem_reduced, elem-sum, elem-zero}

-- the difference of two words
abbrev pub gap : ℕ → ℕ → Word
gap a b = Fp.add (word_of a) (Fp.neg (word_of b))

gap-number : (a b : ℕ) → number (gap a b) ≡ (a + (p - b % p)) % p
gap-number a b =
    ap (λ x. number (Fp.add (word_of a) x)) (sym (word_of_number (Fp.neg (word_of b))) ∙ ap (λ n. word_of n) (sym (neg-residue b)) ∙ residue (p - b % p))
    ∙ ap (λ x. number x) (class-add p p-pos a (p - b % p)) ∙ number_word_of (a + (p - b % p))

-- a difference that went round at 2^32 is below p again after p is added where its top bit is set
value-below : (a b t : ℕ) → t < 4294967296 → b ≤ a → a < p → (t + b) % 4294967296 ≡ a → t ≡ a - b
value-below a b t l o h e = omega arith

value_above : (a b t : ℕ) → t < 4294967296 → a < b → b ≤ p → (t + b) % 4294967296 ≡ a → t + b ≡ a + 4294967296
value_above a b t l o h e = omega arith

kept : (n : ℕ) → n < p → (n + n / 2147483648 * p) % 4294967296 ≡ n % p
kept n h =
    ap (λ m. (n + m * p) % 4294967296) (let z : n / 2147483648 ≡ 0 = omega arith in z)
    ∙ (let g : (n + 0 * p) % 4294967296 ≡ n = omega arith in g) ∙ sym (mod-eq_of_lt h)

around : (n t : ℕ) → n < p → t + p ≡ n + 4294967296 → (t + 1 * p) % 4294967296 ≡ n % p
around n t h e = omega arith

module _ (a b t : ℕ) (h : a < p) (k : b ≤ p) (l : t < 4294967296) (e : (t + b) % 4294967296 ≡ a) where
  brought : (t + t / 2147483648 * p) % 4294967296 ≡ (a + (p - b)) % p
  brought = by_case (dec_le b a)
    where
      by_case : Dec (b ≤ a) → (t + t / 2147483648 * p) % 4294967296 ≡ (a + (p - b)) % p
      by_case (yes o) =
          let d : t ≡ a - b = value-below a b t l o h e in
          kept t (omega (arith, d)) ∙ (let g : t % p ≡ (a + (p - b)) % p = omega (arith, d) in g)
      by_case (no o) =
          let d : t + b ≡ a + 4294967296 = value_above a b t l (omega arith) k e in
          ap (λ n. (t + n * p) % 4294967296) (let top : t / 2147483648 ≡ 1 = omega (arith, d) in top) ∙ around (a + (p - b)) t (omega arith) (omega (arith, d))

pub gap_is : (a b t : ℕ) → a < p → b < p → t < 4294967296 → (t + b) % 4294967296 ≡ a → (t + t / 2147483648 * p) % 4294967296 ≡ number (gap a b)
gap_is a b t h k l e = brought a b t h (omega arith) l e ∙ (let g : (a + (p - b)) % p ≡ (a + (p - b % p)) % p = omega arith in g) ∙ sym (gap-number a b)

-- a sum is the difference from what b lacks
pub plus_is : (a b t : ℕ) → a < p → b < p → t < 4294967296 → (t + (p - b)) % 4294967296 ≡ a → (t + t / 2147483648 * p) % 4294967296 ≡ number (Fp.add (word_of a) (word_of b))
plus_is a b t h k l e = brought a (p - b) t h (omega arith) l e ∙ (let g : (a + (p - (p - b))) % p ≡ (a + b) % p = omega arith in g) ∙ sum-residue a b

-- an element word by word
module _ (a b : List ℕ) {r₀ r₁ r₂ r₃ : ℕ} where
  pub sum_words : r₀ ≡ number (Fp.add (word_of (get_or a 0 0)) (word_of (get_or b 0 0))) → r₁ ≡ number (Fp.add (word_of (get_or a 1 0)) (word_of (get_or b 1 0)))
      → r₂ ≡ number (Fp.add (word_of (get_or a 2 0)) (word_of (get_or b 2 0))) → r₃ ≡ number (Fp.add (word_of (get_or a 3 0)) (word_of (get_or b 3 0)))
      → four r₀ r₁ r₂ r₃ ≡ words_of (elem_of a ⊕ elem_of b)
  unfolding elem_of qadd
  sum_words e₀ e₁ e₂ e₃ = words_of_lem _ _ _ _ e₀ e₁ e₂ e₃

  pub gap_words : r₀ ≡ number (gap (get_or a 0 0) (get_or b 0 0)) → r₁ ≡ number (gap (get_or a 1 0) (get_or b 1 0)) → r₂ ≡ number (gap (get_or a 2 0) (get_or b 2 0)) → r₃ ≡ number (gap (get_or a 3 0) (get_or b 3 0))
      → four r₀ r₁ r₂ r₃ ≡ words_of (elem_of a ⊖ elem_of b)
  unfolding elem_of qadd qneg
  gap_words e₀ e₁ e₂ e₃ = words_of_lem _ _ _ _ e₀ e₁ e₂ e₃

-- s + a·b from its words: v the words of b that come round, taken 11 times
module _ (s a b : List ℕ) (v₁ v₂ v₃ : ℕ) where
  abbrev w : List ℕ → ℕ → ℕ
  w e j = get_or e j 0

  pub mul-add_words : {r₀ r₁ r₂ r₃ : ℕ}
      → v₁ ≡ number (Fp.mul (word_of 11) (word_of (w b 1))) → v₂ ≡ number (Fp.mul (word_of 11) (word_of (w b 2))) → v₃ ≡ number (Fp.mul (word_of 11) (word_of (w b 3)))
      → r₀ ≡ (w a 0 * w b 0 + w a 1 * v₃ + w a 2 * v₂ + w a 3 * v₁ + w s 0) % p
      → r₁ ≡ (w a 0 * w b 1 + w a 1 * w b 0 + w a 2 * v₃ + w a 3 * v₂ + w s 1) % p
      → r₂ ≡ (w a 0 * w b 2 + w a 1 * w b 1 + w a 2 * w b 0 + w a 3 * v₃ + w s 2) % p
      → r₃ ≡ (w a 0 * w b 3 + w a 1 * w b 2 + w a 2 * w b 1 + w a 3 * w b 0 + w s 3) % p
      → four r₀ r₁ r₂ r₃ ≡ words_of (elem_of s ⊕ elem_of a ⊗ elem_of b)
  unfolding elem_of
  mul-add_words f₁ f₂ f₃ g₀ g₁ g₂ g₃ =
      reduced _ _ _ _ g₀ g₁ g₂ g₃
      ∙ ap words_of
      (elem-sum m₀ m₁ m₂ m₃ (w s 0) (w s 1) (w s 2) (w s 3)
      ∙ ap (λ x. x ⊕ elem_of s)
      (sym (elem_reduced m₀ m₁ m₂ m₃)
      ∙ elem_of_words (elem_of a ⊗ elem_of b) (product_words (w a 0) (w a 1) (w a 2) (w a 3) (w b 0) (w b 1) (w b 2) (w b 3) v₁ v₂ v₃ f₁ f₂ f₃ refl refl refl refl))
      ∙ F.add_comm _ (elem_of s))
    where
      m₀ : ℕ
      m₀ = w a 0 * w b 0 + w a 1 * v₃ + w a 2 * v₂ + w a 3 * v₁

      m₁ : ℕ
      m₁ = w a 0 * w b 1 + w a 1 * w b 0 + w a 2 * v₃ + w a 3 * v₂

      m₂ : ℕ
      m₂ = w a 0 * w b 2 + w a 1 * w b 1 + w a 2 * w b 0 + w a 3 * v₃

      m₃ : ℕ
      m₃ = w a 0 * w b 3 + w a 1 * w b 2 + w a 2 * w b 1 + w a 3 * w b 0

pub product_alone : (x : Elem) {r : List ℕ} → r ≡ words_of (elem_of (four 0 0 0 0) ⊕ x) → r ≡ words_of x
product_alone x e = e ∙ ap words_of (ap (λ z. z ⊕ x) elem-zero ∙ zero-add F x)
