-- Sums of products of words as numbers, not reduced.
use Rattle.std.specs.Prelude.{ℕ, ◌+◌, ◌*◌, List, [], ◌∷◌, slice_index}

-- four words, m apart, from index i of the part that starts at `at`
unfoldable pub quarters_of : List ℕ → ℕ → ℕ → ℕ → List ℕ
quarters_of xs at i m = slice_index xs (at + i) ∷ slice_index xs (at + i + m) ∷ slice_index xs (at + i + m + m) ∷ slice_index xs (at + i + m + m + m) ∷ []

-- the sum of the products of four words and of those of a table, 256 apart, from index i on
abbrev pub dot_of : List ℕ → List ℕ → ℕ → ℕ
dot_of a k i = slice_index a 0 * slice_index k i + slice_index a 1 * slice_index k (i + 256) + slice_index a 2 * slice_index k (i + 512) + slice_index a 3 * slice_index k (i + 768)
