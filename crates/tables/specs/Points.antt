-- Points in slices of words: their coordinates are whole elements, one after the other.
use Rattle.std.specs.Prelude.{List, ℕ, ◌+◌, ◌/◌, min, length}
use Rattle.algebra.specs.Listed.{listed}
use Rattle.field.specs.Element.{Elem}
use Rattle.field.specs.Slice.{elem_at}

-- m elements of a slice, from index i on
abbrev pub coordinates : List ℕ → ℕ → ℕ → List Elem
coordinates xs i m = listed m (λ j. elem_at xs (i + j))

-- the number of whole elements of a slice; words past the last one are not read
abbrev pub count : List ℕ → ℕ
count xs = length xs / 4

-- as many as both have
abbrev pub shared : List ℕ → List ℕ → ℕ
shared xs ys = min (count xs) (count ys)
