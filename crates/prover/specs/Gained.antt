-- What slices of n elements hold: words below p, those of a table, or what they held before with a multiple of a table's entry gained.
use Rattle.std.specs.Prelude.{◌≡◌, ℕ, ◌*◌, ◌<◌, List, length}
use Rattle.field.specs.Canonical.{Canonical}
use Rattle.field.specs.Element.{Elem, ◌⊕◌, ◌⊗◌, words_of}
use Rattle.field.specs.Slice.{elem_at, words_at}

pub record Elements (n : ℕ) (xs : List ℕ) : Type 0 where
  pub size : length xs ≡ 4 * n
  pub canonical : (i : ℕ) → i < n → Canonical (words_at xs i)

pub record Table (n : ℕ) (f : ℕ → Elem) (xs : List ℕ) : Type 0 where
  pub size : length xs ≡ 4 * n
  pub entries : (i : ℕ) → i < n → words_at xs i ≡ words_of (f i)

pub record Gained (n : ℕ) (k : Elem) (f : ℕ → Elem) (old new : List ℕ) : Type 0 where
  pub size : length new ≡ length old
  pub entries : (i : ℕ) → i < n → words_at new i ≡ words_of (elem_at old i ⊕ k ⊗ f i)
