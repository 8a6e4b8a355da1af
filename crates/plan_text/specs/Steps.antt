-- The text read byte by byte: one step from any state. From the start a text of document 01's form (`Text` of Spelling) leaves its
-- numbers and may end there, by `text_read` of proofs/Spellings, and no other text may, by `whole_text` of proofs/Wholes.
-- Bytes: 10 newline, 32 space, 48 to 57 the digits.
use Rattle.std.specs.Prelude.{ℕ, ◌+◌, ◌*◌, ◌-◌, ◌%◌, Bool, true, false, cond, List, [], ◌∷◌, length, set, ltb, eqb}
use Rattle.text.specs.Reading.{is_digit}
use Rattle.plan_text.specs.declared.Reading.{Reading}
use Rattle.plan_text.specs.declared.Reading.TheVariants.{Between, Within, Wrong}

-- after so many numbers, at the start of the next
abbrev pub started : ℕ → Reading
started count = Between count 0

-- in a number, after a digit at least
abbrev pub within : ℕ → ℕ → Reading
within count value = Within count value

abbrev pub refused : ℕ → Reading
refused count = Wrong count 0 false

-- the numbers before
abbrev pub count_of : Reading → ℕ
count_of (Between count value) = count
count_of (Within count value) = count
count_of (Wrong count value digits) = count

-- the value so far
abbrev pub value_of : Reading → ℕ
value_of (Between count value) = value
value_of (Within count value) = value
value_of (Wrong count value digits) = value

-- whether the number has a digit
abbrev pub digits_of : Reading → Bool
digits_of (Between count value) = false
digits_of (Within count value) = true
digits_of (Wrong count value digits) = digits

-- whether the text is of another form
abbrev pub bad_of : Reading → Bool
bad_of (Between count value) = false
bad_of (Within count value) = false
bad_of (Wrong count value digits) = true

-- what is read, and the numbers so far
pub record State : Type 0 where
  pub reading : Reading
  pub words : List ℕ

abbrev pub state : Reading → List ℕ → State
state reading words = record { reading = reading; words = words }

-- the byte that ends a number: a newline after the second, and after every third from there on; else a space
unfoldable pub ending : ℕ → ℕ
ending count = cond (eqb (count % 3) 1) 10 32

-- one digit more; a number above u32, and another byte, is refused
unfoldable pub digit_of : ℕ → ℕ → ℕ → Reading
digit_of count value b =
    cond (is_digit b) (cond (ltb (value * 10 + (b - 48)) 4294967296) (within count (value * 10 + (b - 48))) (refused count)) (refused count)

-- a number ends: it has a place among so many
unfoldable pub ended_of : ℕ → ℕ → Reading
ended_of count room = cond (ltb count room) (started (count + 1)) (refused count)

unfoldable pub reading_of : Reading → List ℕ → ℕ → Reading
reading_of (Between count value) words b = digit_of count value b
reading_of (Within count value) words b = cond (eqb b (ending count)) (ended_of count (length words)) (digit_of count value b)
reading_of (Wrong count value digits) words b = Wrong count value digits

unfoldable pub words_of : Reading → List ℕ → ℕ → List ℕ
words_of (Between count value) words b = words
words_of (Within count value) words b = cond (eqb b (ending count)) (set words count value) words
words_of (Wrong count value digits) words b = words

-- one byte more
abbrev pub step_of : State → ℕ → State
step_of s b = state (reading_of s.reading s.words b) (words_of s.reading s.words b)

-- a part of the text more
unfoldable pub steps_of : State → List ℕ → State
steps_of s [] = s
steps_of s (b ∷ bs) = steps_of (step_of s b) bs

-- whether the text may end here: at the end of a line, the first one at least
unfoldable pub whole_of : Reading → Bool
whole_of (Between count value) = eqb (count % 3) 2
whole_of (Within count value) = false
whole_of (Wrong count value digits) = false
