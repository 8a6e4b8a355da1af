-- The request's sentences on the calls' own definitions, out of every contract.
use Rattle.std.specs.Prelude.{ℕ, ◌+◌, ◌*◌, ◌<◌, ◌≡◌, List, length, get_or}
use Rattle.std.specs.Int.Count.{count_trailing_zeros}
use Rattle.storage.specs.Reversed.{reversed}
use Rattle.storage.specs.Storing.{rows_number, stored_into, loaded_into}

-- each call undoes the other, whatever the width and the height that are not refused
pub record Undone : Type 0 where
  pub back : (w h : ℕ) (xs out other : List ℕ) → rows_number w h xs (length out) ≡ 0 → length other ≡ length out
      → (rows_number w h (stored_into w h xs out) (length other) ≡ 0) × (loaded_into w h (stored_into w h xs out) other ≡ xs)
  pub forth : (w h : ℕ) (xs out other : List ℕ) → rows_number w h xs (length out) ≡ 0 → length other ≡ length out
      → (rows_number w h (loaded_into w h xs out) (length other) ≡ 0) × (stored_into w h (loaded_into w h xs out) other ≡ xs)

-- a row of all columns together, at the row's reversal: what each call leaves
pub record Together : Type 0 where
  pub stored : (w h : ℕ) (xs out : List ℕ) → rows_number w h xs (length out) ≡ 0 → (r c : ℕ) → r < h → c < w
      → get_or (stored_into w h xs out) (reversed (count_trailing_zeros 32 h) r * w + c) 0 ≡ get_or xs (c * h + r) 0
  pub loaded : (w h : ℕ) (xs out : List ℕ) → rows_number w h xs (length out) ≡ 0 → (r c : ℕ) → r < h → c < w
      → get_or (loaded_into w h xs out) (c * h + r) 0 ≡ get_or xs (reversed (count_trailing_zeros 32 h) r * w + c) 0
