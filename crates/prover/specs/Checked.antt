-- Rows that are folded only where every word of theirs is below p.
use Rattle.std.specs.Prelude.{◌≡◌, ℕ, ◌≤◌, Bool, true, false, ◌⊎◌, List, slice_index}
use Rattle.field.specs.Element.{Elem}
use Rattle.field.specs.Slice.{canonical_words}
use Rattle.prover.specs.Written.{Written}

-- whether every word of q is below p; if so, the first elements are f 0, f 1, .., f (rows − 1), else nothing is written
pub record Checked (q old : List ℕ) (rows : ℕ) (f : ℕ → Elem) (ok : Bool) (new : List ℕ) : Type 0 where
  pub says : ok ≡ canonical_words q
  pub done : ok ≡ true → Written old 0 rows f new
  pub kept : ok ≡ false → new ≡ old

-- every word is 0
abbrev pub Zeros : List ℕ → Type 0
Zeros xs = (i : ℕ) → slice_index xs i ≡ 0

-- the rows go in one step, or what they are written over is zeros
abbrev pub Steps : List ℕ → ℕ → ℕ → Type 0
Steps out rows step = (rows ≤ step) ⊎ ((1 ≤ step) × Zeros out)
