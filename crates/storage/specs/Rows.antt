-- A stacked matrix of w columns of 2^k rows, and its rows as they are stored: each the words of all columns together, row r
-- at the place that r has with its bits reversed.
use Rattle.std.specs.Prelude.{ℕ, ◌+◌, ◌*◌, ◌/◌, ◌%◌, ◌^◌, List, get_or}
use Rattle.algebra.specs.Listed.{listed}
use Rattle.storage.specs.Reversed.{reversed}

-- where row r of column c stands, in the stacked matrix and among the stored rows
abbrev pub stacked_at : ℕ → ℕ → ℕ → ℕ
stacked_at k r c = c * 2 ^ k + r

abbrev pub stored_at : ℕ → ℕ → ℕ → ℕ → ℕ
stored_at w k r c = reversed k r * w + c

-- the stored rows: word i is that of column i % w, of the row that stands at i / w
unfoldable pub stored_rows : ℕ → ℕ → List ℕ → List ℕ
stored_rows w k xs = listed (w * 2 ^ k) (λ i. get_or xs (stacked_at k (reversed k (i / w)) (i % w)) 0)

-- the stacked matrix: word i is that of row i % 2^k of column i / 2^k
unfoldable pub stacked_columns : ℕ → ℕ → List ℕ → List ℕ
stacked_columns w k xs = listed (w * 2 ^ k) (λ i. get_or xs (stored_at w k (i % 2 ^ k) (i / 2 ^ k)) 0)
