-- What the walks over a run's columns ask: lists that no lower number refuses, and their number of columns.
use Rattle.std.specs.Prelude.{◌≡◌, List, ℕ}
use Rattle.layout.specs.Triples.{column_count}
use Rattle.layout.specs.Shaped.{Laid}

pub record Walked (l n first : ℕ) (lists : List ℕ) (columns : ℕ) : Type 0 where
  pub laid : Laid l n lists
  pub all : columns ≡ column_count lists
