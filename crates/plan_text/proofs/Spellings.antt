-- A text of document 01's form leaves its numbers and is whole.
use Prim.Native.Nat.{ℕ, suc, ◌+◌, ◌*◌, ◌-◌, ◌%◌, ◌≤◌, ◌<◌}
use mathlib.Core.Path.{◌≡◌, refl, sym, ap, ◌∙◌}
use mathlib.Core.Bool.{true}
use mathlib.Core.List.{List, [], ◌∷◌, ◌++◌}
use native.Mathlib.Omega.{arith}
use native.Mathlib.Numerals.{add-one}
use native.Mathlib.Nat.{add-zero}
use lib.ListN.{length, set, drop, length-set}
use lib.Seq.{sets, sets-eq}
use borrow.Author.Tests.{eq-eqb}
use Rattle.text.specs.Numeral.{value_from, Digits}
use Rattle.text.proofs.Numerals.{grows}
use Rattle.plan_text.specs.Steps.{state, started, within, steps_of, ending, whole_of}
use Rattle.plan_text.specs.Spelling.{Numeral, Spelled, Text}
use Rattle.plan_text.proofs.Readings.{is_digit_lem, digit_in, ends}

module _ (words : List ℕ) (k : ℕ) (rest : List ℕ) where
  more_digits : (v : ℕ) (ds : List ℕ) → Digits ds → value_from v ds < 4294967296
      → steps_of (state (within k v) words) (ds ++ rest) ≡ steps_of (state (within k (value_from v ds)) words) rest
  unfolding value_from Digits steps_of
  more_digits v [] w s = refl
  more_digits v (d ∷ ds) w s =
      let h : v * 10 + (d - 48) ≤ value_from (v * 10 + (d - 48)) ds = grows (v * 10 + (d - 48)) ds in
      ap (λ r. steps_of r (ds ++ rest)) (digit_in words d (within k v) refl (is_digit_lem d w.0 w.1) (omega arith))
      ∙ more_digits (v * 10 + (d - 48)) ds w.2 s

  first_digits : (ds : List ℕ) → 0 < length ds → Digits ds → value_from 0 ds < 4294967296
      → steps_of (state (started k) words) (ds ++ rest) ≡ steps_of (state (within k (value_from 0 ds)) words) rest
  unfolding value_from Digits steps_of
  first_digits [] h w s = absurd (omega arith)
  first_digits (d ∷ ds) h w s =
      let g : 0 * 10 + (d - 48) ≤ value_from (0 * 10 + (d - 48)) ds = grows (0 * 10 + (d - 48)) ds in
      ap (λ r. steps_of r (ds ++ rest)) (digit_in words d (started k) refl (is_digit_lem d w.0 w.1) (omega arith))
      ∙ more_digits (0 * 10 + (d - 48)) ds w.2 s

-- a number and the byte behind it
numeral_read : (words : List ℕ) (k : ℕ) (rest : List ℕ) (x : ℕ) (ds : List ℕ) → Numeral x ds → k < length words
    → steps_of (state (started k) words) (ds ++ ending k ∷ rest) ≡ steps_of (state (started (k + 1)) (set words k x)) rest
unfolding steps_of
numeral_read words k rest x ds n h =
    let s : value_from 0 ds < 4294967296 = omega (arith, n.value, n.small) in
    first_digits words k (ending k ∷ rest) ds n.some n.digits s
    ∙ ap (λ v. steps_of (state (within k v) words) (ending k ∷ rest)) n.value
    ∙ ap (λ s. steps_of s rest) (ends words (ending k) (within k x) refl refl (eq-eqb (ending k) (ending k) refl) h)

pub spelled_read : (xs words : List ℕ) (k : ℕ) (text : List ℕ) → Spelled k xs text → k + length xs ≤ length words
    → steps_of (state (started k) words) text ≡ state (started (k + length xs)) (sets words k xs)
unfolding Spelled steps_of
spelled_read [] words k text s h = ap (steps_of (state (started k) words)) s ∙ ap (λ n. state (started n) words) (sym (add-zero k))
spelled_read (x ∷ xs) words k text s h =
    let p : k + 1 + length xs ≡ k + suc (length xs) = omega arith in
    let room : k + 1 + length xs ≤ length (set words k x) = rw length-set (omega arith) in
    ap (steps_of (state (started k) words)) s.3
    ∙ numeral_read words k s.1 x s.0 s.2 (omega arith)
    ∙ spelled_read xs (set words k x) (k + 1) s.1 s.4 room
    ∙ ap (λ n. state (started n) (sets (set words k x) (k + 1) xs)) p
    ∙ ap (λ i. state (started (k + suc (length xs))) (sets (set words k x) i xs)) (add-one k)

-- a text of the form leaves its numbers and the other words as they were, and may end there
pub text_read : (numbers text words : List ℕ) → Text numbers text → length numbers ≤ length words
    → (steps_of (state (started 0) words) text ≡ state (started (length numbers)) (numbers ++ drop (length numbers) words))
    × (whole_of (started (length numbers)) ≡ true)
unfolding whole_of
text_read numbers text words t h =
    let n : 0 + length numbers ≡ length numbers = omega arith in
    let e = spelled_read numbers words 0 text t.spelled (omega arith) in (
      e ∙ ap (λ m. state (started m) (sets words 0 numbers)) n ∙ ap (state (started (length numbers))) (sets-eq numbers words 0 (omega arith) ∙ ap (λ m. numbers ++ drop m words) n),
      eq-eqb (length numbers % 3) 2 t.lines,
    )
