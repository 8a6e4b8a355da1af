-- Each promised call of this crate on a line, a word, a number or a template of the form and on one of another form, computed through its definition.
use Prim.Native.Nat.{ℕ, zero, suc, ◌<◌}
use mathlib.Core.Path.{◌≡◌, refl, ap}
use mathlib.Core.List.{List, [], ◌∷◌}
use native.Mathlib.Omega.{arith}
use lib.ListN.{get_or}
use Rattle.text.specs.declared.line.Place.TheVariants.{Start, Word, Gap, Number, Comment, Wrong}
use Rattle.text.specs.declared.line.Line.{Line}
use Rattle.text.specs.declared.line.Line.TheVariants.{Nothing, Whole}
use Rattle.text.specs.declared.line.Line.TheVariants.{Wrong as Malformed}
use Rattle.text.specs.Reading.{is_digit, is_letter, counted, letter_place, digit_place, start_place, start_word, word_place, word_after, number_place, numbers_after, Reader, reader, end_of, numbers_at_end, cut_of}
use Rattle.text.specs.Numeral.{steps_of}
use Rattle.text.specs.Printed.{place, digit_count, decimal_of, hexadecimal_of, record_of}
use Rattle.text.specs.Template.{bytes_of, stands_for, marks_after, instance_from, instance_of}
use Rattle.text.specs.Names.{extended, words_of, Placed}

-- a reader at the start of a line, with room for two letters and two numbers
abbrev begun : Reader
begun = reader Start (0 ∷ 0 ∷ []) (0 ∷ 0 ∷ [])

-- `step`: `ab 7 12`, a comment, and `a  `, which has no number after its space
steps : ◌≡◌ {A = List Reader} (steps_of begun (97 ∷ 98 ∷ 32 ∷ 55 ∷ 32 ∷ 49 ∷ 50 ∷ []) ∷ steps_of begun (35 ∷ 33 ∷ []) ∷ steps_of begun (97 ∷ 32 ∷ 32 ∷ []) ∷ [])
    (reader (Number 2 1 12) (97 ∷ 98 ∷ []) (7 ∷ 0 ∷ []) ∷ reader Comment (0 ∷ 0 ∷ []) (0 ∷ 0 ∷ []) ∷ reader Wrong (97 ∷ 0 ∷ []) (0 ∷ 0 ∷ []) ∷ [])
unfolding steps_of is_digit is_letter counted letter_place digit_place start_place start_word word_place word_after number_place numbers_after
steps = refl

-- `ended`: a number more, in the room and past it; a space at the end is of another form
ends : ◌≡◌ {A = List Line} (end_of (Number 2 1 12) 2 ∷ end_of (Number 2 2 12) 2 ∷ end_of (Gap 2 1) 2 ∷ end_of Comment 2 ∷ []) (Whole 2 2 ∷ Whole 2 3 ∷ Malformed ∷ Nothing ∷ [])
unfolding counted
ends = refl

numbers_at_end_lem : numbers_at_end (Number 2 1 12) (7 ∷ 0 ∷ []) ≡ 7 ∷ 12 ∷ []
numbers_at_end_lem = refl

-- `cut`: between lines, and within one
cuts : ◌≡◌ {A = List Line} (cut_of Start ∷ cut_of (Word 2) ∷ []) (Nothing ∷ Malformed ∷ [])
cuts = refl

-- `place_of` in `ab c`: `c` is at 1, and `d` is none of the two
abbrev two_words : List (List ℕ)
two_words = (97 ∷ 98 ∷ []) ∷ (99 ∷ []) ∷ []

names : words_of (97 ∷ 98 ∷ 32 ∷ 99 ∷ []) ≡ two_words
unfolding words_of extended
names = refl

apart : (w v : List ℕ) → get_or w 0 0 < get_or v 0 0 → w ≡ v → ⊥
apart w v h e = omega (arith, h, ap (λ (l : List ℕ). get_or l 0 0) e)

none_before_c : (k : ℕ) → k < 1 → get_or two_words k [] ≡ 99 ∷ [] → ⊥
none_before_c zero h e = apart (97 ∷ 98 ∷ []) (99 ∷ []) (omega arith) e
none_before_c (suc k) h e = omega (arith, h)

placed : Placed two_words (99 ∷ []) 1
placed = record { within = omega arith; before = none_before_c; found = λ h. refl }

none_is_d : (k : ℕ) → k < 2 → get_or two_words k [] ≡ 100 ∷ [] → ⊥
none_is_d zero h e = apart (97 ∷ 98 ∷ []) (100 ∷ []) (omega arith) e
none_is_d (suc zero) h e = apart (99 ∷ []) (100 ∷ []) (omega arith) e
none_is_d (suc (suc k)) h e = omega (arith, h)

not-placed : Placed two_words (100 ∷ []) 2
not-placed = record { within = omega arith; before = none_is_d; found = λ h. absurd (omega (arith, h)) }

-- 40 and 0 in decimal, 255 in 16 hexadecimal digits; a number or a record goes to the page's start from 4,000 on
forty : decimal_of 40 ≡ 52 ∷ 48 ∷ []
unfolding decimal_of digit_count
forty = refl

nought : decimal_of 0 ≡ 48 ∷ []
unfolding decimal_of digit_count
nought = refl

ff : hexadecimal_of 255 ≡ 48 ∷ 48 ∷ 48 ∷ 48 ∷ 48 ∷ 48 ∷ 48 ∷ 48 ∷ 48 ∷ 48 ∷ 48 ∷ 48 ∷ 48 ∷ 48 ∷ 102 ∷ 102 ∷ []
unfolding hexadecimal_of
ff = refl

-- a record of 255 and 1: the digits of the first word, then those of the second
first_word_first : record_of 255 1 ≡ 48 ∷ 48 ∷ 48 ∷ 48 ∷ 48 ∷ 48 ∷ 48 ∷ 48 ∷ 48 ∷ 48 ∷ 48 ∷ 48 ∷ 48 ∷ 48 ∷ 102 ∷ 102 ∷ 48 ∷ 48 ∷ 48 ∷ 48 ∷ 48 ∷ 48 ∷ 48 ∷ 48 ∷ 48 ∷ 48 ∷ 48 ∷ 48 ∷ 48 ∷ 48 ∷ 48 ∷ 49 ∷ []
unfolding record_of hexadecimal_of
first_word_first = refl

places : ◌≡◌ {A = List ℕ} (place 3999 ∷ place 4000 ∷ []) (3999 ∷ 0 ∷ [])
unfolding place
places = refl

-- `put` of a template: a mark for each number, and a mark past the last number
templates : ◌≡◌ {A = List (List ℕ)} (instance_of (bytes_of "a@ b@") (7 ∷ 12 ∷ []) ∷ instance_of (bytes_of "@@") (7 ∷ []) ∷ instance_of (bytes_of "#") (7 ∷ []) ∷ [])
    (bytes_of "a7 b12" ∷ bytes_of "70" ∷ bytes_of "#" ∷ [])
unfolding instance_from stands_for marks_after bytes_of decimal_of digit_count
templates = refl
