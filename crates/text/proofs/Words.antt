-- The words of a text, one after the other.
use Prim.Native.Nat.{ℕ, zero, suc, ◌≤◌, ◌<◌, ◌+◌, ◌-◌}
use mathlib.Core.Path.{◌≡◌, refl, sym, ap, ◌∙◌}
use mathlib.Core.Bool.{Bool, true, false, cond}
use mathlib.Core.List.{List, [], ◌∷◌}
use native.Mathlib.Omega.{arith}
use native.Mathlib.Numerals.{add-one}
use native.Mathlib.Nat.{add-zero}
use borrow.Author.Tests.{eq-eqb, ne_eqb}
use lib.ListN.{length, get_or, take, drop, length-drop}
use lib.Seq.{drop-cons, get_or-drop, drop-drop}
use lib.Dec.{eqb}
use Rattle.text.specs.Names.{extended, words_of, head_length}

split_by : (b : ℕ) (bs : List ℕ) → extended b (words_of bs) ≡ take (suc (head_length bs)) (b ∷ bs) ∷ words_of (drop (suc (suc (head_length bs))) (b ∷ bs))
    → (t : Bool)
    → cond t ([] ∷ words_of bs) (extended b (words_of bs)) ≡ take (cond t zero (suc (head_length bs))) (b ∷ bs) ∷ words_of (drop (suc (cond t zero (suc (head_length bs)))) (b ∷ bs))
split_by b bs e true = refl
split_by b bs e false = e

-- a text that is not empty is its first word, a space and the rest
pub split : (b : ℕ) (bs : List ℕ) → words_of (b ∷ bs) ≡ take (head_length (b ∷ bs)) (b ∷ bs) ∷ words_of (drop (suc (head_length (b ∷ bs))) (b ∷ bs))
unfolding words_of head_length extended
split b [] = split_by b [] refl (eqb b 32)
split b (x ∷ xs) = split_by b (x ∷ xs) (ap (extended b) (split x xs)) (eqb b 32)

-- the first word ends at the first space
pub head_at_space : (l : List ℕ) (b : ℕ) (bs : List ℕ) → l ≡ b ∷ bs → b ≡ 32 → head_length l ≡ zero
unfolding head_length
head_at_space l b bs e h = ap head_length e ∙ simp (eq-eqb b 32 h)

pub head_past : (l : List ℕ) (b : ℕ) (bs : List ℕ) → l ≡ b ∷ bs → (b ≡ 32 → ⊥) → head_length l ≡ suc (head_length bs)
unfolding head_length
head_past l b bs e h = ap head_length e ∙ simp (ne_eqb b 32 h)

pub head_of_none : (l : List ℕ) → length l ≡ 0 → head_length l ≡ zero
unfolding head_length
head_of_none [] e = refl
head_of_none (b ∷ bs) e = absurd (omega arith)

pub words_of_none : (l : List ℕ) → length l ≡ 0 → words_of l ≡ []
unfolding words_of
words_of_none [] e = refl
words_of_none (b ∷ bs) e = absurd (omega arith)

-- the search for a word's end, at i
module _ (names : List ℕ) (end i : ℕ) (e : end ≡ i + head_length (drop i names)) where
  pub at_space : i < length names → get_or names i 0 ≡ 32 → i ≡ end
  at_space h s = omega (arith, head_at_space (drop i names) (get_or names i 0) (drop (suc i) names) (drop-cons names i 0 h) s)

  pub past_letter : i < length names → (get_or names i 0 ≡ 32 → ⊥) → end ≡ (i + 1) + head_length (drop (i + 1) names)
  past_letter h s = rw add-one (omega (arith, head_past (drop i names) (get_or names i 0) (drop (suc i) names) (drop-cons names i 0 h) s))

  pub at_end : length names ≤ i → i ≡ end
  at_end h = omega (arith, head_of_none (drop i names) (length-drop i names ∙ omega arith))

-- the search for a word, before the k-th, which starts at `at` and ends at `end`
module _ (names : List ℕ) (words : List (List ℕ)) (k at end : ℕ) (rest : drop k words ≡ words_of (drop at names)) where
  module _ (h : at < length names) (e : end ≡ at + head_length (drop at names)) where
    cons : drop k words ≡ take (end - at) (drop at names) ∷ words_of (drop (end + 1) names)
    cons =
        let s = drop-cons names at 0 h in
        let n : head_length (drop at names) ≡ end - at = omega arith in
        let past : at + suc (head_length (drop at names)) ≡ end + 1 = omega arith in
        let w : words_of (drop at names) ≡ take (head_length (drop at names)) (drop at names) ∷ words_of (drop (suc (head_length (drop at names))) (drop at names)) =
        rw s (split (get_or names at 0) (drop (suc at) names)) in
        let d : drop (suc (head_length (drop at names))) (drop at names) ≡ drop (end + 1) names =
        drop-drop (suc (head_length (drop at names))) at names ∙ ap (λ m. drop m names) past in
        rest ∙ w ∙ ap (λ m. take m (drop at names) ∷ words_of (drop (suc (head_length (drop at names))) (drop at names))) n
        ∙ ap (λ l. take (end - at) (drop at names) ∷ words_of l) d

    pub here : get_or words k [] ≡ take (end - at) (drop at names)
    here = ap (λ m. get_or words m []) (sym (add-zero k)) ∙ sym (get_or-drop k words 0 []) ∙ ap (λ l. get_or l 0 []) cons

    pub below : k < length words
    below = omega (arith, length-drop k words, ap length cons)

    pub next : drop (k + 1) words ≡ words_of (drop (end + 1) names)
    next = sym (drop-drop 1 k words) ∙ ap (drop 1) cons

  pub all_passed : length names ≤ at → length words ≤ k
  all_passed h = omega (arith, length-drop k words, ap length (rest ∙ words_of_none (drop at names) (length-drop at names ∙ omega arith)))
