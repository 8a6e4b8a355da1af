-- The rounds, over plain variables: the first polynomial's sum by two coefficients, and a turn of the carried claim.
use mathlib.Core.Path.{◌≡◌, refl, sym, ◌∙◌, ap, ap₂}
use mathlib.Core.List.{List}
use Prim.Native.Nat.{ℕ, ◌+◌, ◌-◌, ◌*◌, ◌%◌, ◌^◌, ◌<◌, ◌≤◌}
use native.Mathlib.Nat.{zero-add, two-pow-succ}
use native.Mathlib.Numerals.{add-one}
use native.Mathlib.Decide.{dec_lt}
use native.Mathlib.Omega.{arith}
use lib.ListN.{length, get_or, get_or-eq_default}
use Rattle.algebra.specs.Ring.{num}
use Rattle.algebra.specs.Zmod.{class}
use Rattle.algebra.proofs.Euler.{num-class}
use Rattle.algebra.proofs.Powers.{shift_exact, two_pow-pos}
use Rattle.algebra.proofs.Lists.{length-listed, get_d_listed}
use Rattle.field.specs.Word.{p, p-pos, word_of}
use Rattle.field.specs.Element.{Elem, F, ◌⊕◌, ◌⊖◌, ◌⊗◌, from_word, elem_of, words_of}
use Rattle.field.specs.Powers.{root}
use Rattle.field.specs.Slice.{elem_at}
use Rattle.field.proofs.Elements.{elem_of_words}
use Rattle.field.proofs.Embedding.{from_word-num}
use Rattle.tables.specs.SubgroupSum.{subgroup_sum}
use Rattle.tables.specs.Points.{coordinates, count}
use Rattle.tables.specs.OnSlices.{value_of}
use Rattle.tables.specs.AtField.{quadratic_f}
use Rattle.tables.proofs.SubgroupSums.{subgroup_sum_two}
use Rattle.tables.proofs.FieldSkip.{field_skip}
use Rattle.weights.specs.Carried.{sent, carried}
use Rattle.weights.specs.AtField.{carried_f}

-- an element that stands past the end reads as zero
pub elem_past : (xs : List ℕ) (i : ℕ) → length xs ≤ 4 * i → elem_at xs i ≡ F.zero
unfolding elem_at class
elem_past xs i h =
    rw (
      get_or-eq_default xs 0 {n = 4 * i} (omega arith),
      get_or-eq_default xs 0 {n = 4 * i + 1} (omega arith),
      get_or-eq_default xs 0 {n = 4 * i + 2} (omega arith),
      get_or-eq_default xs 0 {n = 4 * i + 3} (omega arith),
    ) refl

-- the elements of a slice, by their index, zero past the end
pub get_d_elements : (xs : List ℕ) (m : ℕ) → length xs ≡ 4 * m → (i : ℕ) → get_or (coordinates xs 0 (count xs)) i F.zero ≡ elem_at xs i
get_d_elements xs m e i = by_case (dec_lt i (count xs))
  where
    by_case : Dec (i < count xs) → get_or (coordinates xs 0 (count xs)) i F.zero ≡ elem_at xs i
    by_case (yes h) = get_d_listed (count xs) (λ j. elem_at xs (0 + j)) i F.zero h ∙ ap (elem_at xs) (zero-add i)
    by_case (no h) =
        get_or-eq_default (coordinates xs 0 (count xs)) F.zero {n = i} (omega (arith, length-listed (count xs) (λ j. elem_at xs (0 + j))))
        ∙ sym (elem_past xs i (omega arith))

-- a number as an element
num_word : (n : ℕ) → from_word (word_of n) ≡ num F n
num_word n = ap (λ x. from_word x) (sym (num-class p p-pos n)) ∙ sym (from_word-num n)

pub first_sum_lem : (l : ℕ) (cs : List ℕ) → l ≤ 10 → length cs ≡ 4 * (2 ^ (l + 1) - 1) → {a b s r : List ℕ} → a ≡ words_of (elem_at cs 0) → b ≡ words_of (elem_at cs (1 * 2 ^ l % 4294967296))
    → s ≡ words_of (elem_of a ⊕ elem_of b) → r ≡ words_of (from_word (word_of (1 * 2 ^ l % 4294967296)) ⊗ elem_of s)
    → r ≡ words_of (subgroup_sum F l (root l) (coordinates cs 0 (count cs)))
first_sum_lem l cs small size ea eb es er =
    er
    ∙ ap₂ (λ n v. words_of (from_word (word_of n) ⊗ v)) order (elem_of_words _ es ∙ ap₂ (λ u v. u ⊕ v) (elem_of_words _ ea) (elem_of_words _ eb ∙ ap (elem_at cs) order))
    ∙ ap words_of
    (ap₂ (λ u v. u ⊗ v) (num_word (2 ^ l)) (ap₂ (λ u v. u ⊕ v) (sym (get_d_elements cs _ size 0)) (sym (get_d_elements cs _ size (2 ^ l))))
    ∙ sym (subgroup_sum_two (field_skip l (omega arith)) (coordinates cs 0 (count cs)) few))
  where
    order : 1 * 2 ^ l % 4294967296 ≡ 2 ^ l
    order = shift_exact l 32 (omega arith)

    few : length (coordinates cs 0 (count cs)) ≤ 2 ^ l * 2
    few =
        omega (arith, length-listed (count cs) (λ j. elem_at cs (0 + j)), size, ap (λ n. 2 ^ n) (add-one l) ∙ two-pow-succ l, two_pow-pos l)

-- the carried claim
pub carried_start : (cs us : List ℕ) (q s t : ℕ → Elem) {u r : List ℕ} → u ≡ words_of (elem_at us 0) → r ≡ words_of (value_of cs (elem_of u))
    → r ≡ words_of (carried_f (value_of cs (elem_at us 0)) q s t 0)
unfolding carried
carried_start cs us q s t eu er = er ∙ ap (λ x. words_of (value_of cs x)) (elem_of_words _ eu)

pub carried_turn : (claim : Elem) (q s t : ℕ → Elem) (j : ℕ) {a b c u d r : List ℕ} → a ≡ words_of (carried_f claim q s t j) → b ≡ words_of (q j) → c ≡ words_of (s j)
    → u ≡ words_of (t j) → d ≡ words_of (elem_of a ⊖ elem_of b) → r ≡ words_of (quadratic_f (elem_of d) (elem_of b) (elem_of c) (elem_of u))
    → r ≡ words_of (carried_f claim q s t (j + 1))
unfolding carried sent
carried_turn claim q s t j {a} {b} {c} {u} ea eb ec eu ed er =
    er
    ∙ ap₂ (λ x y. words_of (quadratic_f x y (elem_of c) (elem_of u))) (elem_of_words _ ed ∙ ap₂ (λ x y. x ⊖ y) (elem_of_words _ ea) (elem_of_words _ eb)) (elem_of_words _ eb)
    ∙ ap₂ (λ x y. words_of (quadratic_f (carried_f claim q s t j ⊖ q j) (q j) x y)) (elem_of_words _ ec) (elem_of_words _ eu)
    ∙ ap (λ n. words_of (carried_f claim q s t n)) (sym (add-one j))
