-- What the private functions ask of a list: what is known of it once the lower numbers are decided.
use Rattle.std.specs.Prelude.{ℕ, ◌+◌, ◌-◌, ◌*◌, ◌<◌, ◌≤◌, ◌≡◌, List, ◌++◌, length, take, replicate}
use Rattle.layout.specs.Triples.{count_of, width_at, log_at}
use Rattle.layout.specs.Placing.{height, stack_width}
use Rattle.layout.specs.Stacked.{cell_count}

-- after 1 and 2
pub record Shaped (l n : ℕ) (list : List ℕ) : Type 0 where
  pub skip : l ≤ 10
  pub stack : n ≤ 20
  pub sum : l + n ≤ 24
  pub few : count_of list ≤ 4111
  pub widths : (i : ℕ) → i < count_of list → width_at list i ≤ 4096

-- after 4 too
pub record Laid (l n : ℕ) (list : List ℕ) : Type 0 where
  pub shaped : Shaped l n list
  pub logs : (i : ℕ) → i < count_of list → 0 < width_at list i → log_at list i ≤ l + n

-- room for `count` cells at a stride from `at` on, and nothing but zeros there
pub record Spreadable (out : List ℕ) (at : ℕ) (cells : List ℕ) (from count stride : ℕ) : Type 0 where
  pub step : 0 < stride
  pub room : at + count * stride ≤ length out
  pub there : from + count ≤ length cells
  pub zeros : out ≡ take at out ++ replicate (length out - at) 0

-- a list, its cells and a slice of as many words as its stacked matrix has
pub record Fillable (l n : ℕ) (list cells : List ℕ) (places : ℕ) : Type 0 where
  pub laid : Laid l n list
  pub cells_size : length cells ≡ cell_count list
  pub places_size : places ≡ stack_width l n (count_of list) list * height l n
