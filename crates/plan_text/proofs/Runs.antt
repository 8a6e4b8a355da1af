-- A text read a byte a turn: what is left to read leads to the same state.
use Prim.Native.Nat.{ℕ, ◌+◌, ◌≤◌, ◌<◌}
use mathlib.Core.Path.{◌≡◌, refl}
use mathlib.Core.List.{List, [], ◌∷◌, ◌++◌}
use native.Mathlib.Numerals.{add-one}
use lib.ListN.{length, get_or, drop, drop_of_length-le}
use lib.Seq.{drop-cons}
use Rattle.plan_text.specs.declared.Reading.{Reading}
use Rattle.plan_text.specs.Steps.{State, state, step_of, steps_of}

module _ (text words : List ℕ) (r : Reading) (i : ℕ) (end : State) (left : steps_of (state r words) (drop i text) ≡ end) where
  pub turn : i < length text → (words' : List ℕ) (r' : Reading)
      → r' ≡ (step_of (state r words) (get_or text i 0)).reading → words' ≡ (step_of (state r words) (get_or text i 0)).words
      → steps_of (state r' words') (drop (i + 1) text) ≡ end
  unfolding steps_of
  turn h words' r' p q = rw (p, q, add-one) (rw (drop-cons text i 0 h) at left)

  pub done : length text ≤ i → state r words ≡ end
  unfolding steps_of
  done h = rw (drop_of_length-le text h) at left

-- a text in two parts
pub in_parts : (s : State) (a b : List ℕ) → steps_of s (a ++ b) ≡ steps_of (steps_of s a) b
unfolding steps_of
in_parts s [] b = refl
in_parts s (x ∷ a) b = in_parts (step_of s x) a b
