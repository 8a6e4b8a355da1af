-- Text in a page of 4,096 bytes.
use Rattle.std.specs.Prelude.{ℕ, zero, suc, ◌+◌, ◌-◌, ◌/◌, min, ◌≡◌, cond, List, [], ◌∷◌, ◌++◌, length, ltb}
use Rattle.std.proofs.Math.Seq.{paste}
use Rattle.io.specs.Digits.{last_digits, IsDigitCount}

-- how many of the bytes have room in a page from a place on
abbrev pub fitting : List ℕ → ℕ → List ℕ → ℕ
fitting out at bytes = min (length bytes) (length out - at)

-- bytes put into a page at a place, as far as there is room; all others of the page are as they were
pub record Appended (before : List ℕ) (at : ℕ) (bytes : List ℕ) (to : ℕ) (after : List ℕ) : Type 0 where
  pub ends : to ≡ at + fitting before at bytes
  pub stands : after ≡ paste before at bytes (fitting before at bytes)

-- how many decimal digits x has, x below 10 to the power of one more than the turns
unfoldable pub digit_count : ℕ → ℕ → ℕ
digit_count zero x = 1
digit_count (suc turns) x = cond (ltb x 10) 1 (suc (digit_count turns (x / 10)))

-- a u64 in decimal digits, as few as there can be
unfoldable pub decimal_of : ℕ → List ℕ
decimal_of x = last_digits 10 (digit_count 19 x) x

-- the text is x in decimal digits, as few as there can be
pub record Decimal (x : ℕ) (text : List ℕ) : Type 0 where
  pub places : ℕ
  pub fewest : IsDigitCount 10 1 x places
  pub spelled : text ≡ last_digits 10 places x

-- a u64 in 16 hexadecimal digits
unfoldable pub hexadecimal_of : ℕ → List ℕ
hexadecimal_of x = last_digits 16 16 x

-- a record of two u64 in 32, the first word first
unfoldable pub record_of : ℕ → ℕ → List ℕ
record_of a b = hexadecimal_of a ++ hexadecimal_of b

-- where the next number goes: from 4,000 on the page is written out first, and filled from the start again
unfoldable pub place : ℕ → ℕ
place at = cond (ltb at 4000) at 0

-- a page, and the place that is reached in it
pub record Filled : Type 0 where
  pub page : List ℕ
  pub at : ℕ

abbrev pub filled : List ℕ → ℕ → Filled
filled page at = record { page = page; at = at }

-- a space and a text from the next number's place on
unfoldable pub put_of : Filled → List ℕ → Filled
put_of s text = filled (paste s.page (place s.at) (32 ∷ text) (length (32 ∷ text))) (place s.at + length (32 ∷ text))

-- the texts of numbers, one after the other
unfoldable pub all_of : (ℕ → List ℕ) → Filled → List ℕ → Filled
all_of text s [] = s
all_of text s (x ∷ xs) = all_of text (put_of s (text x)) xs
