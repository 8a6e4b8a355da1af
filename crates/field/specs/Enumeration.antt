-- The field's elements by number, and how many lists of them pass a test.
use Rattle.std.specs.Prelude.{Bool, List, ℕ, ◌/◌, ◌^◌}
use Rattle.algebra.specs.Count.{how_many}
use Rattle.field.specs.Word.{p, word_of}
use Rattle.field.specs.Element.{Elem, elem}

-- the number of elements
abbrev pub field_size : ℕ
field_size = p ^ 4

-- element i has for its coefficients the four lowest digits of i to the base p, the constant one first
unfoldable pub enumeration : ℕ → Elem
enumeration i = elem (word_of i) (word_of (i / p)) (word_of (i / p / p)) (word_of (i / p / p / p))

-- of the lists of m elements, how many pass
abbrev pub how_many_f : ℕ → (List Elem → Bool) → ℕ
how_many_f m test = how_many field_size enumeration m test
