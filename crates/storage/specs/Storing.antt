-- `store_rows` and `load_rows`: their number, and what they leave in the second buffer.
use Rattle.std.specs.Prelude.{ℕ, ◌*◌, ◌^◌, cond, not, List, length, eqb, ltb}
use Rattle.std.specs.Int.Count.{ones, count_trailing_zeros}
use Rattle.layout.specs.Checks.{refuse, or_else, length_number, word_number}
use Rattle.storage.specs.Rows.{stored_rows, stacked_columns}

-- 1: a height over 2^24; 2: a width over 4,096; 3: a height that lacks its one bit
unfoldable pub size_number : ℕ → ℕ → ℕ
size_number w h = or_else (refuse 1 (ltb (2 ^ 24) h)) (or_else (refuse 2 (ltb 4096 w)) (refuse 3 (not (eqb (ones h) 1))))

-- then 9: either buffer has not a word for each row of each column; 10: a word of the source is not below p
unfoldable pub rows_number : ℕ → ℕ → List ℕ → ℕ → ℕ
rows_number w h xs places =
    or_else (size_number w h) (or_else (length_number (length xs) (w * h)) (or_else (length_number places (w * h)) (word_number xs)))

-- the buffer as it was where a number refuses
unfoldable pub stored_into : ℕ → ℕ → List ℕ → List ℕ → List ℕ
stored_into w h xs out = cond (eqb (rows_number w h xs (length out)) 0) (stored_rows w (count_trailing_zeros 32 h) xs) out

unfoldable pub loaded_into : ℕ → ℕ → List ℕ → List ℕ → List ℕ
loaded_into w h xs out = cond (eqb (rows_number w h xs (length out)) 0) (stacked_columns w (count_trailing_zeros 32 h) xs) out
