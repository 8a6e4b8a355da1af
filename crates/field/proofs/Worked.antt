-- Each call of this crate on two inputs, computed through its definition: an ordinary one, and one with a word not below p, a missing word or another edge.
use mathlib.Core.Path.{◌≡◌, refl, ap}
use mathlib.Core.Bool.{Bool, true, false}
use mathlib.Core.List.{List, [], ◌∷◌}
use Prim.Native.Nat.{ℕ, ◌^◌, min}
use native.Mathlib.Omega.{arith}
use lib.ListN.{get_or}
use Rattle.algebra.specs.Ring.{pow}
use Rattle.algebra.specs.Zmod.{class, zadd, zmul, zneg}
use Rattle.algebra.specs.Quadratic.{qadd, qmul, qneg}
use Rattle.field.specs.declared.answer.Refusal.{Refusal}
use Rattle.field.specs.declared.answer.Refusal.TheVariants.{FinalSumMismatch}
use Rattle.std.specs.declared.result.Result.{Result}
use Rattle.std.specs.declared.result.Result.TheVariants.{Ok, Err}
use Rattle.field.specs.Number.{number_of}
use Rattle.field.specs.Word.{Fp, word_of, number, half}
use Rattle.field.specs.Element.{F, ◌⊕◌, ◌⊖◌, ◌⊗◌, neg, from_word, half_elem, elem_of, words_of}
use Rattle.field.specs.Slice.{elem_at, put, canonical_words, canonical_four}
use Rattle.field.specs.Same.{same_words}
use Rattle.field.specs.Powers.{generator}
use Rattle.field.proofs.Generators.{generator_10, generator_half}

-- two results
abbrev both : {A : Type 0} → A → A → List A
both a b = a ∷ b ∷ []

-- `answer::number`
abbrev done : Result (Unit {0}) Refusal
done = Ok tt

abbrev mismatch : Result (Unit {0}) Refusal
mismatch = Err FinalSumMismatch

numbers : both (number_of done) (number_of mismatch) ≡ both 0 14
numbers = refl

-- `word::add`, `sub`, `neg`, `mul` and `halve`; p + 1 is read as 1
sums : both (number (Fp.add (word_of 2) (word_of 3))) (number (Fp.add (word_of 2013265920) (word_of 2013265922))) ≡ both 5 0
unfolding class zadd
sums = refl

differences : both (number (Fp.add (word_of 3) (Fp.neg (word_of 2)))) (number (Fp.add (word_of 2) (Fp.neg (word_of 2013265924)))) ≡ both 1 2013265920
unfolding class zadd zneg
differences = refl

negatives : both (number (Fp.neg (word_of 1))) (number (Fp.neg (word_of 2013265921))) ≡ both 2013265920 0
unfolding class zneg
negatives = refl

products : both (number (Fp.mul (word_of 2) (word_of 3))) (number (Fp.mul (word_of 2013265923) (word_of 3))) ≡ both 6 6
unfolding class zmul
products = refl

halves : both (number (Fp.mul half (word_of 6))) (number (Fp.mul half (word_of 2013265922))) ≡ both 3 1006632961
unfolding class zmul
halves = refl

-- 1 + 2X + 3X² + 4X³, and words of which two are not below p
abbrev small : List ℕ
small = 1 ∷ 2 ∷ 3 ∷ 4 ∷ []

abbrev large : List ℕ
large = 2013265921 ∷ 2013265922 ∷ 0 ∷ 2013265920 ∷ []

-- `element::canonical` and `from_word`
canonical_words_lem : both (words_of (elem_of small)) (words_of (elem_of large)) ≡ both small (0 ∷ 1 ∷ 0 ∷ 2013265920 ∷ [])
unfolding elem_of words_of class
canonical_words_lem = refl

from_words_lem : both (words_of (from_word (word_of 7))) (words_of (from_word (word_of 4026531842))) ≡ both (7 ∷ 0 ∷ 0 ∷ 0 ∷ []) (0 ∷ 0 ∷ 0 ∷ 0 ∷ [])
unfolding words_of class
from_words_lem = refl

-- `element::add`, `sub`, `neg`, `double`, `halve` and `scale`
element-sums : both (words_of (elem_of small ⊕ elem_of small)) (words_of (elem_of small ⊕ elem_of large)) ≡ both (2 ∷ 4 ∷ 6 ∷ 8 ∷ []) (1 ∷ 3 ∷ 3 ∷ 3 ∷ [])
unfolding elem_of words_of qadd class zadd
element-sums = refl

element_differences : both (words_of (elem_of small ⊖ elem_of small)) (words_of (elem_of small ⊖ elem_of large)) ≡ both (0 ∷ 0 ∷ 0 ∷ 0 ∷ []) (1 ∷ 1 ∷ 3 ∷ 5 ∷ [])
unfolding elem_of words_of qadd qneg class zadd zneg
element_differences = refl

element_negatives : both (words_of (neg (elem_of small))) (words_of (neg (elem_of large)))
    ≡ both (2013265920 ∷ 2013265919 ∷ 2013265918 ∷ 2013265917 ∷ []) (0 ∷ 2013265920 ∷ 0 ∷ 1 ∷ [])
unfolding elem_of words_of qneg class zneg
element_negatives = refl

element_doubles : both (words_of (elem_of small ⊕ elem_of small)) (words_of (elem_of large ⊕ elem_of large)) ≡ both (2 ∷ 4 ∷ 6 ∷ 8 ∷ []) (0 ∷ 2 ∷ 0 ∷ 2013265919 ∷ [])
unfolding elem_of words_of qadd class zadd
element_doubles = refl

element_halves : both (words_of (half_elem ⊗ elem_of small)) (words_of (half_elem ⊗ elem_of large))
    ≡ both (1006632961 ∷ 1 ∷ 1006632962 ∷ 2 ∷ []) (0 ∷ 1006632961 ∷ 0 ∷ 1006632960 ∷ [])
unfolding elem_of words_of qadd qmul class zadd zmul
element_halves = refl

scaled_elements : both (words_of (from_word (word_of 3) ⊗ elem_of small)) (words_of (from_word (word_of 2013265923) ⊗ elem_of large))
    ≡ both (3 ∷ 6 ∷ 9 ∷ 12 ∷ []) (0 ∷ 2 ∷ 0 ∷ 2013265919 ∷ [])
unfolding elem_of words_of qadd qmul class zadd zmul
scaled_elements = refl

-- `element::mul`, `square` and `exp_power_of_2`: of these words by X, which brings 11 round; X + p as X; two squarings and none
element_products : both (words_of (elem_of small ⊗ elem_of (0 ∷ 1 ∷ 0 ∷ 0 ∷ []))) (words_of (elem_of large ⊗ elem_of (0 ∷ 2013265922 ∷ 0 ∷ 0 ∷ [])))
    ≡ both (44 ∷ 1 ∷ 2 ∷ 3 ∷ []) (2013265910 ∷ 0 ∷ 1 ∷ 0 ∷ [])
unfolding elem_of words_of qadd qmul class zadd zmul
element_products = refl

element_squares : both (words_of (elem_of small ⊗ elem_of small)) (words_of (elem_of large ⊗ elem_of large))
    ≡ both (276 ∷ 268 ∷ 186 ∷ 20 ∷ []) (2013265899 ∷ 0 ∷ 12 ∷ 0 ∷ [])
unfolding elem_of words_of qadd qmul class zadd zmul
element_squares = refl

element_powers : both (words_of (pow F (elem_of (0 ∷ 1 ∷ 0 ∷ 0 ∷ [])) (2 ^ 2))) (words_of (pow F (elem_of large) (2 ^ 0))) ≡ both (11 ∷ 0 ∷ 0 ∷ 0 ∷ []) (0 ∷ 1 ∷ 0 ∷ 2013265920 ∷ [])
unfolding pow elem_of words_of qadd qmul class zadd zmul
element_powers = refl

-- `element::same`: yes, and no for words that differ in the last place
sames : ◌≡◌ {A = List Bool} (both (same_words small small) (same_words small (1 ∷ 2 ∷ 3 ∷ 5 ∷ []))) (both true false)
unfolding same_words
sames = refl

-- `slice::word_at`, `load` and `store`: within the slice, and at its end
words_at_lem : both (get_or small 3 0) (get_or small 4 0) ≡ both 4 0
words_at_lem = refl

abbrev slice : List ℕ
slice = 1 ∷ 2 ∷ 3 ∷ 4 ∷ 2013265922 ∷ 6 ∷ []

loaded : both (words_of (elem_at slice 0)) (words_of (elem_at slice 1)) ≡ both small (1 ∷ 6 ∷ 0 ∷ 0 ∷ [])
unfolding elem_at words_of class
loaded = refl

stored : both (put slice 0 (elem_of large)) (put slice 1 (elem_of small)) ≡ both (0 ∷ 1 ∷ 0 ∷ 2013265920 ∷ 2013265922 ∷ 6 ∷ []) (1 ∷ 2 ∷ 3 ∷ 4 ∷ 1 ∷ 2 ∷ [])
unfolding put elem_of class
stored = refl

-- `slice::canonical` and `canonical_four`: p − 1 is taken, p is not
canonical_slices : ◌≡◌ {A = List Bool} (both (canonical_words (0 ∷ 2013265920 ∷ [])) (canonical_words (0 ∷ 2013265921 ∷ []))) (both true false)
unfolding canonical_words
canonical_slices = refl

canonical_fours : ◌≡◌ {A = List Bool} (both (canonical_four small) (canonical_four (1 ∷ 2 ∷ 3 ∷ 2013265921 ∷ []))) (both true false)
unfolding canonical_four
canonical_fours = refl

-- `powers::skip_power`: of order 2 at 1, and an l_skip of 11, which is read as 10
power_of_order_two : number (pow Fp (generator (min 1 10)) 1) ≡ 2013265920
unfolding class zneg
power_of_order_two = ap (λ x. number x) (generator_half 0 (omega arith))

power_past_ten : number (pow Fp (generator (min 11 10)) 1) ≡ 341742893
unfolding pow class zmul
power_past_ten = ap (λ g. number (pow Fp g 1)) generator_10
