-- Elements in a slice of words: element i stands at words 4i to 4i + 3.
use Rattle.std.specs.Prelude.{Bool, true, ◌&&◌, List, [], ◌∷◌, ◌++◌, ℕ, zero, suc, ◌+◌, ◌*◌, ltb, get_or, set}
use Rattle.field.specs.Word.{p, word_of, number}
use Rattle.field.specs.Element.{Elem, elem, words_of}

-- the element at an index; a word past the end reads as 0
unfoldable pub elem_at : List ℕ → ℕ → Elem
elem_at xs i = elem (word_of (get_or xs (4 * i) 0)) (word_of (get_or xs (4 * i + 1) 0)) (word_of (get_or xs (4 * i + 2) 0)) (word_of (get_or xs (4 * i + 3) 0))

-- the slice with an element put at an index; a word past the end is dropped
unfoldable pub put : List ℕ → ℕ → Elem → List ℕ
put xs i ((a₀, a₂), (a₁, a₃)) =
    set (set (set (set xs (4 * i) (number a₀)) (4 * i + 1) (number a₁)) (4 * i + 2) (number a₂)) (4 * i + 3) (number a₃)

-- whether every word is below p
unfoldable pub canonical_words : List ℕ → Bool
canonical_words [] = true
canonical_words (x ∷ xs) = ltb x p && canonical_words xs

-- whether the four words of an element are below p
unfoldable pub canonical_four : List ℕ → Bool
canonical_four a = ltb (get_or a 0 0) p && (ltb (get_or a 1 0) p && (ltb (get_or a 2 0) p && ltb (get_or a 3 0) p))

-- the words of an element, as they stand in a slice; and the words of f 0, f 1, .., f (n − 1), one element after the other
unfoldable pub words_at : List ℕ → ℕ → List ℕ
words_at xs i = get_or xs (4 * i) 0 ∷ get_or xs (4 * i + 1) 0 ∷ get_or xs (4 * i + 2) 0 ∷ get_or xs (4 * i + 3) 0 ∷ []

unfoldable pub elem_words : ℕ → (ℕ → Elem) → List ℕ
elem_words zero f = []
elem_words (suc n) f = words_of (f 0) ++ elem_words n (λ i. f (suc i))
