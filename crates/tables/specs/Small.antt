-- Small numbers as elements: what document 01's checked values are written in.
use Rattle.std.specs.Prelude.{List, [], ◌∷◌, ℕ, get_or}
use Rattle.field.specs.Word.{word_of}
use Rattle.field.specs.Element.{Elem, from_word}

-- a number as an element, and the words of one
abbrev pub el : ℕ → Elem
el n = from_word (word_of n)

abbrev pub is : ℕ → List ℕ
is n = n ∷ 0 ∷ 0 ∷ 0 ∷ []

-- numbers as the rows of a column or the entries of a table, 0 past the last
abbrev pub els : List ℕ → ℕ → Elem
els ns i = el (get_or ns i 0)
