-- What a round's loops ask: lists that are not refused, and work buffers whose live part is words below p.
use Rattle.std.specs.Prelude.{◌≡◌, ℕ, ◌+◌, ◌-◌, ◌*◌, ◌/◌, ◌^◌, ◌<◌, ◌≤◌, true, List, length}
use Rattle.layout.specs.Triples.{column_count}
use Rattle.layout.specs.Columns.{column_at}
use Rattle.layout.specs.Walked.{Walked}
use Rattle.weights.specs.Fits.{Fits}
use Rattle.prover.specs.Words.{CanonicalFrom}
use Rattle.prover.specs.Slots.{occurs, table_size, Slots}
use Rattle.prover.specs.CallNumbers.{live_tables}

-- the columns of a run, every one in its place
pub record Placed (l n first : ℕ) (lists : List ℕ) (columns stacked : ℕ) : Type 0 where
  pub limit : l ≤ 10
  pub stack : n ≤ 20
  pub sum : l + n ≤ 24
  pub few : stacked ≤ 16838656
  pub walked : Walked l n first lists columns
  pub fits : (k : ℕ) → k < column_count lists → Fits l n (column_at l n first lists k).log (column_at l n first lists k).start
  pub inside : (k : ℕ) → k < column_count lists → (column_at l n first lists k).start / 2 ^ (l + n) < stacked
  pub there : (k : ℕ) → k < column_count lists → occurs lists (column_at l n first lists k).log ≡ true

-- and the buffers of round j
pub record LiveRound (l n : ℕ) (lists : List ℕ) (stacked : ℕ) (slots : List ℕ) (j : ℕ) (q eq rot : List ℕ) : Type 0 where
  pub from : 1 ≤ j
  pub to : j ≤ n
  pub starts : Slots l n lists slots
  pub values : CanonicalFrom q 0 (stacked * 2 ^ (n - (j - 1)))
  pub values_size : length q ≡ 4 * (stacked * 2 ^ n)
  pub eq_live : live_tables l lists (j - 1) eq (l + n + 1) ≡ true
  pub eq_size : length eq ≡ 4 * table_size l n lists
  pub rot_live : live_tables l lists (j - 1) rot (l + n + 1) ≡ true
  pub rot_size : length rot ≡ 4 * table_size l n lists

-- room for m elements from index `at` on, in words below p
pub record Held (xs : List ℕ) (at m : ℕ) : Type 0 where
  pub room : 4 * (at + m) ≤ length xs
  pub below : CanonicalFrom xs at m

-- of one column of log height h that starts at cell s, in round j
pub record LiveColumn (l j s h at : ℕ) (q eq rot : List ℕ) : Type 0 where
  pub small : l + j ≤ 24
  pub from : 1 ≤ j
  pub low : h - l ≤ 20
  pub long : j ≤ h - l → Held q (s / 2 ^ (l + j - 1)) (2 * 2 ^ (h - l - j)) × Held eq at (2 * 2 ^ (h - l - j)) × Held rot at (2 * 2 ^ (h - l - j))
  pub short : h - l < j → Held q (2 * (s / 2 ^ (l + j))) 2
