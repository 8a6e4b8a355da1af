-- Numbers put into a page, one a turn: those that are left lead to the same page and place.
use Prim.Native.Nat.{ℕ, ◌+◌, ◌≤◌, ◌<◌}
use mathlib.Core.Path.{◌≡◌}
use mathlib.Core.List.{List}
use native.Mathlib.Numerals.{add-one}
use lib.ListN.{length, get_or, drop, drop_of_length-le}
use lib.Seq.{drop-cons}
use Rattle.text.specs.Printed.{Filled, put_of, all_of}

module _ (text : ℕ → List ℕ) (xs : List ℕ) (s : Filled) (i : ℕ) (end : Filled) (left : all_of text s (drop i xs) ≡ end) where
  pub turn : i < length xs → (t : Filled) → t ≡ put_of s (text (get_or xs i 0)) → all_of text t (drop (i + 1) xs) ≡ end
  unfolding all_of
  turn h t e = rw (e, add-one) (rw (drop-cons xs i 0 h) at left)

  pub done : length xs ≤ i → s ≡ end
  unfolding all_of
  done h = rw (drop_of_length-le xs h) at left
