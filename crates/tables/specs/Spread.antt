-- What one coordinate more makes of the first `half` entries of a table: entry j is the old entry at j without its lowest bit, times the factor of
-- that bit at x; the slice keeps its length.
use Rattle.std.specs.Prelude.{◌≡◌, List, ℕ, ◌*◌, ◌/◌, ◌%◌, ◌<◌, length}
use Rattle.algebra.specs.Multilinear.{bit_factor}
use Rattle.field.specs.Element.{Elem, F, ◌⊗◌, words_of}
use Rattle.field.specs.Slice.{elem_at, words_at}

pub record Spread (old : List ℕ) (half : ℕ) (x : Elem) (new : List ℕ) : Type 0 where
  pub entries : (j : ℕ) → j < 2 * half → words_at new j ≡ words_of (elem_at old (j / 2) ⊗ bit_factor F x (j % 2))
  pub length_kept : length new ≡ length old
