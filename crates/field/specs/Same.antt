-- Whether two elements are equal, word by word: of words below p, whether the elements are. The words are not reduced.
use Rattle.std.specs.Prelude.{Bool, ◌&&◌, List, ℕ, eqb, get_or}
use Rattle.field.specs.Element.{Elem, words_of}

unfoldable pub same_words : List ℕ → List ℕ → Bool
same_words a b = eqb (get_or a 0 0) (get_or b 0 0) && (eqb (get_or a 1 0) (get_or b 1 0) && (eqb (get_or a 2 0) (get_or b 2 0) && eqb (get_or a 3 0) (get_or b 3 0)))

abbrev pub same : Elem → Elem → Bool
same x y = same_words (words_of x) (words_of y)
