-- Rows of words added up by kernels: Σ_{i<n} q_(i + at) · K_i. Document 01: the fold at u_0 adds each row of N words so.
use Rattle.std.specs.Prelude.{ℕ, ◌+◌, ◌*◌, ◌/◌, ◌%◌, List, slice_index}
use Rattle.algebra.specs.Sum.{sum}
use Rattle.field.specs.Word.{word_of}
use Rattle.field.specs.Element.{Elem, F, elem, ◌⊗◌, from_word}

-- the words of a slice, as elements
abbrev pub from_words : List ℕ → ℕ → Elem
from_words xs i = from_word (word_of (slice_index xs i))

-- where element i of 4·m stands in a table: m of them from each of 0, 256, 512 and 768 on
unfoldable pub table_index : ℕ → ℕ → ℕ
table_index m i = 256 * (i / m) + i % m

-- the elements whose coefficients stand in four tables of 1,024 entries, one table after the other
unfoldable pub coefficients : ℕ → List ℕ → ℕ → Elem
coefficients m k i =
    elem (word_of (slice_index k (table_index m i))) (word_of (slice_index k (table_index m i + 1024))) (word_of (slice_index k (table_index m i + 2048)))
    (word_of (slice_index k (table_index m i + 3072)))

-- the row of n words from index `at` on, by the kernels k
unfoldable pub row_sum : List ℕ → ℕ → (ℕ → Elem) → ℕ → Elem
row_sum q at k n = sum F n (λ i. from_words q (i + at) ⊗ k i)
