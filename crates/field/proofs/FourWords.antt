-- The tests on the four words of elements: equal word by word is equal, and each below p is canonical.
use mathlib.Core.Path.{◌≡◌, refl, sym, ◌∙◌, ap}
use mathlib.Core.Bool.{Bool, true, false, ◌&&◌, and-true, false≢true}
use mathlib.Core.List.{List, [], ◌∷◌}
use Prim.Native.Nat.{ℕ}
use native.Mathlib.Omega.{arith}
use lib.Dec.{eqb, ltb}
use lib.ListN.{length, get_or}
use lib.Pointwise.{pointwise}
use borrow.Author.Tests.{eq-eqb, eqb-true, lt-ltb, ltb-true}
use Rattle.field.specs.Word.{p}
use Rattle.field.specs.Element.{Elem, words_of}
use Rattle.field.specs.Canonical.{Canonical}
use Rattle.field.specs.Slice.{canonical_words, canonical_four}
use Rattle.field.specs.Same.{same_words, same}
use Rattle.field.proofs.Elements.{elem_of_words, elem_of_words_of}
use Rattle.field.proofs.ElementWords.{four_eq}

-- the four tests, as a list has them
pub pointwise_four : (a b : List ℕ) → length a ≡ 4 → length b ≡ 4 → pointwise eqb a b ≡ same_words a b
unfolding same_words
pointwise_four (a₀ ∷ a₁ ∷ a₂ ∷ a₃ ∷ []) (b₀ ∷ b₁ ∷ b₂ ∷ b₃ ∷ []) e f = ap (λ t. eqb a₀ b₀ && (eqb a₁ b₁ && (eqb a₂ b₂ && t))) (and-true (eqb a₃ b₃))
pointwise_four _ _ e f = absurd (omega (arith, e, f))

pub canonical_words_four : (a : List ℕ) → length a ≡ 4 → canonical_words a ≡ canonical_four a
unfolding canonical_words canonical_four
canonical_words_four (a₀ ∷ a₁ ∷ a₂ ∷ a₃ ∷ []) e = ap (λ t. ltb a₀ p && (ltb a₁ p && (ltb a₂ p && t))) (and-true (ltb a₃ p))
canonical_words_four _ e = absurd (omega (arith, e))

-- tests joined by `and`: passed, and failed
pub and_skip : (a b : Bool) {r : Bool} → a ≡ true → r ≡ b → r ≡ a && b
and_skip a b e f = f ∙ ap (λ (t : Bool). t && b) (sym e)

pub and_stop : (a b : Bool) → a ≡ false → false ≡ a && b
and_stop a b e = ap (λ (t : Bool). t && b) (sym e)

pub and_both : (a b : Bool) → a && b ≡ true → (a ≡ true) × (b ≡ true)
and_both true b e = (refl, e)
and_both false b e = absurd (false≢true e)

four_words : (x y : Elem) → same_words (words_of x) (words_of y) ≡ true → words_of x ≡ words_of y
unfolding same_words words_of
four_words ((a₀, a₂), (a₁, a₃)) ((b₀, b₂), (b₁, b₃)) e =
    let f = and_both _ _ e in
    let g = and_both _ _ f.1 in
    let h = and_both _ _ g.1 in
    four_eq (eqb-true _ _ f.0) (eqb-true _ _ g.0) (eqb-true _ _ h.0) (eqb-true _ _ h.1)

pub same_true : (x y : Elem) → same x y ≡ true → x ≡ y
same_true x y e = sym (elem_of_words_of x) ∙ elem_of_words y (four_words x y e)

pub same_words_lem : (a : List ℕ) → same_words a a ≡ true
unfolding same_words
same_words_lem a = simp (eq-eqb (get_or a 0 0) (get_or a 0 0) refl, eq-eqb (get_or a 1 0) (get_or a 1 0) refl, eq-eqb (get_or a 2 0) (get_or a 2 0) refl, eq-eqb (get_or a 3 0) (get_or a 3 0) refl)

pub same_equal : (x y : Elem) → x ≡ y → same x y ≡ true
same_equal x y e = ap (λ z. same x z) (sym e) ∙ same_words_lem (words_of x)

pub four_canonical : (a : List ℕ) → canonical_four a ≡ true → Canonical a
unfolding canonical_four
four_canonical a e =
    let f = and_both _ _ e in
    let g = and_both _ _ f.1 in
    let h = and_both _ _ g.1 in
    record { w0 = ltb-true _ _ f.0; w1 = ltb-true _ _ g.0; w2 = ltb-true _ _ h.0; w3 = ltb-true _ _ h.1 }

pub canonical_four_lem : (a : List ℕ) → Canonical a → canonical_four a ≡ true
unfolding canonical_four
canonical_four_lem a e = simp (lt-ltb _ p e.w0, lt-ltb _ p e.w1, lt-ltb _ p e.w2, lt-ltb _ p e.w3)
