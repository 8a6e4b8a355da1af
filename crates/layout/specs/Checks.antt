-- Checks in document 01's order: each is a number of its table, 0 where it passes, and the first that is not 0 wins.
use Rattle.std.specs.Prelude.{ℕ, zero, suc, Bool, true, false, not, List, eqb}
use Rattle.field.specs.Slice.{canonical_words}

-- the number where the test holds
unfoldable pub refuse : ℕ → Bool → ℕ
refuse n true = n
refuse n false = 0

-- the first number, or the second where the first is 0
unfoldable pub or_else : ℕ → ℕ → ℕ
or_else zero r = r
or_else (suc n) r = suc n

-- the first that is not 0 of the numbers f 0, f 1, .. f (k - 1), or 0
unfoldable pub first_of : ℕ → (ℕ → ℕ) → ℕ
first_of zero f = 0
first_of (suc k) f = or_else (first_of k f) (f k)

-- 9: a slice of another length
abbrev pub length_number : ℕ → ℕ → ℕ
length_number has asked = refuse 9 (not (eqb has asked))

-- 10: a word not below p
abbrev pub word_number : List ℕ → ℕ
word_number xs = refuse 10 (not (canonical_words xs))
