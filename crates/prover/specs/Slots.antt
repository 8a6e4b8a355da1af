-- The tables of the distinct heights, ascending, each at its own start. Document 01: two tables of 4·2^n_lift words per distinct height, one of each
-- however often the height recurs.
use Rattle.std.specs.Prelude.{◌≡◌, ℕ, zero, suc, ◌+◌, ◌-◌, ◌^◌, ◌≤◌, Bool, false, cond, ◌&&◌, ◌||◌, List, [], length, ◌==◌, nat_le, nat_lt, slice_index}
use Rattle.layout.specs.Triples.{count_of, width_at, log_at}

module _ (lists : List ℕ) where
  -- whether one of the first i matrices has columns, and h for their log height
  unfoldable pub occurs_in : ℕ → ℕ → Bool
  occurs_in zero h = false
  occurs_in (suc i) h = occurs_in i h || (nat_lt 0 (width_at lists i) && log_at lists i == h)

  abbrev pub occurs : ℕ → Bool
  occurs h = occurs_in (count_of lists) h

module _ (l : ℕ) (lists : List ℕ) where
  -- 2^n_lift for a height that occurs, else none
  unfoldable pub entries : ℕ → ℕ
  entries h = cond (occurs lists h) (2 ^ (h - l)) 0

  -- the index of the first entry of height h
  unfoldable pub slot_start : ℕ → ℕ
  slot_start zero = 0
  slot_start (suc h) = slot_start h + entries h

  -- what stands at index i where entry x of height h is f h x; the heights are below m
  unfoldable pub slotted : ℕ → (ℕ → ℕ → List ℕ) → ℕ → List ℕ
  slotted zero f i = []
  slotted (suc h) f i = cond (nat_le (slot_start h) i) (f h (i - slot_start h)) (slotted h f i)

-- the entries of all heights; no column is higher than a stack column
abbrev pub table_size : ℕ → ℕ → List ℕ → ℕ
table_size l n lists = slot_start l lists (l + n + 1)

-- the starts, as a call has them
pub record Slots (l n : ℕ) (lists : List ℕ) (slots : List ℕ) : Type 0 where
  pub starts : (h : ℕ) → h ≤ l + n + 1 → slice_index slots h ≡ slot_start l lists h
  pub size : length slots ≡ 32
