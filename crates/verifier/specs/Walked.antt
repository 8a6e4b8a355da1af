-- What the weights of a run's columns ask, beside the walk: a point and challenges of n_stack + 1 elements, and columns that fit.
use Rattle.std.specs.Prelude.{◌≡◌, List, ℕ, ◌+◌, ◌*◌, ◌<◌, ◌≤◌, length}
use Rattle.layout.specs.Triples.{column_count}
use Rattle.layout.specs.Columns.{column_at}
use Rattle.layout.specs.Walked.{Walked}
use Rattle.weights.specs.Fits.{Fits}

-- of one column, by its log height
pub record Pointed (l n h : ℕ) (r challenges : List ℕ) : Type 0 where
  pub skip : l ≤ 10
  pub sum : l + n ≤ 24
  pub log : h ≤ l + n
  pub point : length r ≡ 4 * (n + 1)
  pub all : length challenges ≡ 4 * (n + 1)

-- of all columns, of which there is one at least
pub record Placed (l n first : ℕ) (lists : List ℕ) (columns : ℕ) (r challenges : List ℕ) : Type 0 where
  pub walked : Walked l n first lists columns
  pub some : 0 < columns
  pub fits : (k : ℕ) → k < column_count lists → Fits l n (column_at l n first lists k).log (column_at l n first lists k).start
  pub point : length r ≡ 4 * (n + 1)
  pub all : length challenges ≡ 4 * (n + 1)
