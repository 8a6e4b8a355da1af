-- A line read byte by byte: one step from any place. A number is the value of its digits (`number_read` of proofs/Numerals), one above
-- u32 makes the line wrong (`too_large`) and it stays so (`stays_wrong`), and what is printed is read back (`printed_read`).
-- Bytes: 10 newline, 32 space, 35 `#`, 48 to 57 the digits, 95 `_`, 97 to 122 the letters.
use Rattle.std.specs.Prelude.{ℕ, ◌+◌, ◌*◌, ◌-◌, Bool, true, false, cond, Option, Some, None, List, length, set, ltb, leb, eqb}
use Rattle.text.specs.declared.line.Place.{Place}
use Rattle.text.specs.declared.line.Place.TheVariants.{Start, Word, Gap, Number, Comment, Wrong}
use Rattle.text.specs.declared.line.Line.{Line}
use Rattle.text.specs.declared.line.Line.TheVariants.{Nothing, Whole}
use Rattle.text.specs.declared.line.Line.TheVariants.{Wrong as Malformed}

unfoldable pub is_digit : ℕ → Bool
is_digit b = cond (ltb b 48) false (ltb b 58)

unfoldable pub is_letter : ℕ → Bool
is_letter b = cond (eqb b 95) true (cond (ltb b 97) (is_digit b) (ltb b 123))

-- the numbers after one more, in a room; one more than the room where there is no place
unfoldable pub counted : ℕ → ℕ → ℕ
counted room count = cond (ltb count room) (count + 1) (room + 1)

unfoldable pub letter_place : ℕ → ℕ → Place
letter_place room letters = cond (ltb letters room) (Word (letters + 1)) Wrong

-- the value of digits with one more behind them, below 2³²
unfoldable pub value_with : ℕ → ℕ → Option ℕ
value_with value b = cond (is_digit b) (cond (ltb (value * 10 + (b - 48)) 4294967296) (Some (value * 10 + (b - 48))) None) None

-- a number with one digit more, below 2³²
unfoldable pub digit_place : ℕ → ℕ → ℕ → ℕ → Place
digit_place letters count value b =
    cond (ltb b 48) Wrong
    (cond (leb 58 b) Wrong
    (cond (ltb (value * 10 + (b - 48)) 4294967296) (Number letters count (value * 10 + (b - 48))) Wrong))

-- From each place: the place after a byte, and the word or the numbers after it.
unfoldable pub start_place : ℕ → ℕ → Place
start_place room b = cond (eqb b 35) Comment (cond (is_letter b) (letter_place room 0) Wrong)

unfoldable pub start_word : List ℕ → ℕ → List ℕ
start_word word b = cond (eqb b 35) word (cond (is_letter b) (set word 0 b) word)

unfoldable pub word_place : ℕ → ℕ → ℕ → Place
word_place room letters b = cond (eqb b 32) (Gap letters 0) (cond (is_letter b) (letter_place room letters) Wrong)

unfoldable pub word_after : List ℕ → ℕ → ℕ → List ℕ
word_after word letters b = cond (eqb b 32) word (cond (is_letter b) (set word letters b) word)

unfoldable pub number_place : ℕ → ℕ → ℕ → ℕ → ℕ → Place
number_place room letters count value b = cond (eqb b 32) (Gap letters (counted room count)) (digit_place letters count value b)

unfoldable pub numbers_after : List ℕ → ℕ → ℕ → ℕ → List ℕ
numbers_after numbers count value b = cond (eqb b 32) (set numbers count value) numbers

-- where the reader stands, the word's letters and the numbers
pub record Reader : Type 0 where
  pub place : Place
  pub word : List ℕ
  pub numbers : List ℕ

abbrev pub reader : Place → List ℕ → List ℕ → Reader
reader place word numbers = record { place = place; word = word; numbers = numbers }

abbrev pub step_at : Place → List ℕ → List ℕ → ℕ → Reader
step_at Start word numbers b = reader (start_place (length word) b) (start_word word b) numbers
step_at (Word letters) word numbers b = reader (word_place (length word) letters b) (word_after word letters b) numbers
step_at (Gap letters count) word numbers b = reader (digit_place letters count 0 b) word numbers
step_at (Number letters count value) word numbers b =
    reader (number_place (length numbers) letters count value b) word (numbers_after numbers count value b)
step_at Comment word numbers b = reader Comment word numbers
step_at Wrong word numbers b = reader Wrong word numbers

-- one byte more, other than a newline
abbrev pub step_of : Reader → ℕ → Reader
step_of s b = step_at s.place s.word s.numbers b

-- the line that a newline ends, in a room for numbers
abbrev pub end_of : Place → ℕ → Line
end_of Start room = Malformed
end_of (Word letters) room = Whole letters 0
end_of (Gap letters count) room = Malformed
end_of (Number letters count value) room = Whole letters (counted room count)
end_of Comment room = Nothing
end_of Wrong room = Malformed

abbrev pub numbers_at_end : Place → List ℕ → List ℕ
numbers_at_end Start numbers = numbers
numbers_at_end (Word letters) numbers = numbers
numbers_at_end (Gap letters count) numbers = numbers
numbers_at_end (Number letters count value) numbers = set numbers count value
numbers_at_end Comment numbers = numbers
numbers_at_end Wrong numbers = numbers

-- what the end of the input leaves
abbrev pub cut_of : Place → Line
cut_of Start = Nothing
cut_of (Word letters) = Malformed
cut_of (Gap letters count) = Malformed
cut_of (Number letters count value) = Malformed
cut_of Comment = Nothing
cut_of Wrong = Malformed
