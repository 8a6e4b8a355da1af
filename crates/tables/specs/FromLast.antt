-- The eq table on its way, from the last coordinate down, with i of the m coordinates left: after k = m − i coordinates the first 2^k entries are the
-- starting element's eq table of the last k, which stand in xs from coordinate i on.
-- Document 02, C-17.
use Rattle.std.specs.Prelude.{◌≡◌, List, ℕ, ◌-◌, ◌*◌, ◌^◌, ◌≤◌, length, take, drop}
use Rattle.field.specs.Element.{Elem}
use Rattle.tables.specs.EqTable.{eq_table}

pub record FromLast (start : Elem) (xs : List ℕ) (m i half : ℕ) (out : List ℕ) : Type 0 where
  pub bound : i ≤ m
  pub size : half ≡ 2 ^ (m - i)
  pub kept : length out ≡ 4 * 2 ^ m
  pub entries : take (4 * 2 ^ (m - i)) out ≡ eq_table start (drop (4 * i) xs) (m - i)
