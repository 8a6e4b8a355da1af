-- What one step of a table's doubling leaves of a slice: entries j and half + j are made from entry j, and the slice keeps its length.
use Rattle.std.specs.Prelude.{◌≡◌, List, ℕ, ◌+◌, ◌<◌, length}
use Rattle.field.specs.Element.{Elem, words_of}
use Rattle.field.specs.Slice.{elem_at, words_at}

pub record Doubled (old : List ℕ) (half : ℕ) (low high : ℕ → Elem → Elem) (new : List ℕ) : Type 0 where
  pub lower : (j : ℕ) → j < half → words_at new j ≡ words_of (low j (elem_at old j))
  pub upper : (j : ℕ) → j < half → words_at new (half + j) ≡ words_of (high j (elem_at old j))
  pub length_kept : length new ≡ length old
