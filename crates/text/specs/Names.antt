-- A list of words as text, one space between.
use Rattle.std.specs.Prelude.{ℕ, zero, suc, ◌≤◌, ◌<◌, ◌≡◌, cond, List, [], ◌∷◌, length, get_or, eqb}

-- the first of the words, a letter longer
unfoldable pub extended : ℕ → List (List ℕ) → List (List ℕ)
extended b [] = (b ∷ []) ∷ []
extended b (w ∷ ws) = (b ∷ w) ∷ ws

-- the words of a text
unfoldable pub words_of : List ℕ → List (List ℕ)
words_of [] = []
words_of (b ∷ bs) = cond (eqb b 32) ([] ∷ words_of bs) (extended b (words_of bs))

-- the length of the first word
unfoldable pub head_length : List ℕ → ℕ
head_length [] = zero
head_length (b ∷ bs) = cond (eqb b 32) zero (suc (head_length bs))

-- place is the first place of the word among the words, or their number where it is none of them
pub record Placed (words : List (List ℕ)) (word : List ℕ) (place : ℕ) : Type 0 where
  pub within : place ≤ length words
  pub before : (k : ℕ) → k < place → get_or words k [] ≡ word → ⊥
  pub found : place < length words → get_or words place [] ≡ word
