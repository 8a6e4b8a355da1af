-- Three copies, one after the other, fill a slice of just that length.
use mathlib.Core.Path.{◌≡◌, refl, ◌∙◌, ap, ap₂}
use mathlib.Core.List.{List, [], ◌++◌, append_assoc, append-nil}
use Prim.Native.Nat.{ℕ, ◌+◌, ◌≤◌}
use native.Mathlib.Omega.{arith}
use lib.ListN.{length, take, drop, length-append, drop_of_length-le}
use lib.Seq.{paste, take_all, take_at, length-paste}

-- a copy of all of s after a front of the same length as `at`
module _ (d front s : List ℕ) (at : ℕ) (starts : take at d ≡ front) (size : length front ≡ at) (room : at + length s ≤ length d) where
  pasted : paste d at s (length s) ≡ front ++ s ++ drop (at + length s) d
  pasted = ap₂ (λ x y. x ++ y ++ drop (at + length s) d) starts (take_all (length s) s (omega arith))

  pub paste_front : take (at + length s) (paste d at s (length s)) ≡ front ++ s
  paste_front = ap (take (at + length s)) pasted ∙ take_at (front ++ s) (drop (at + length s) d) (at + length s) (length-append front s ∙ ap (λ n. n + length s) size)

  pub paste_whole : length d ≡ at + length s → paste d at s (length s) ≡ front ++ s
  paste_whole e = pasted ∙ ap (λ x. front ++ s ++ x) (drop_of_length-le d {i = at + length s} (omega arith)) ∙ append-nil (front ++ s)

module _ (a b c o o₁ o₂ o₃ : List ℕ) (size : length o ≡ length a + length b + length c)
    (e₁ : o₁ ≡ paste o 0 a (length a)) (e₂ : o₂ ≡ paste o₁ (length a) b (length b)) (e₃ : o₃ ≡ paste o₂ (length a + length b) c (length c)) where
  pub first_length : length o₁ ≡ length o
  first_length = ap length e₁ ∙ length-paste o 0 a (length a) (omega arith) (omega arith)

  pub second-length : length o₂ ≡ length o
  second-length = ap length e₂ ∙ length-paste o₁ (length a) b (length b) (omega (arith, first_length)) (omega arith) ∙ first_length

  first_front : take (length a) o₁ ≡ a
  first_front =
      ap₂ take {x = length a} {y = 0 + length a} (omega arith) e₁ ∙ paste_front o [] a 0 refl refl (omega arith)

  second_front : take (length a + length b) o₂ ≡ a ++ b
  second_front = ap (take (length a + length b)) e₂ ∙ paste_front o₁ a b (length a) first_front refl (omega (arith, first_length))

  pub all_observed : o₃ ≡ a ++ (b ++ c)
  all_observed =
      e₃ ∙ paste_whole o₂ (a ++ b) c (length a + length b) second_front (length-append a b) (omega (arith, second-length)) (omega (arith, second-length))
      ∙ append_assoc a b c
