-- The scans of the work buffers: a part of a slice, and the live entries of every height.
use Rattle.std.proofs.Common.{◌≡◌, ℕ, ◌+◌, ◌-◌, ◌*◌, ◌/◌, ◌%◌, ◌^◌, ◌<◌, ◌≤◌, max, Bool, true, false, cond, not, ◌&&◌, eqb, List, length, get_or, take, drop, sym, refl, ap, ◌∙◌, ap₂, mul-le-mul_left, div-le_self, add-one, arith, pow_mono}
use mathlib.Core.Bool.{and-true, and-false}
use borrow.Author.Tests.{eqb-false, not-true, not-false}
use Rattle.field.specs.Slice.{canonical_words}
use Rattle.prover.specs.Slots.{entries, table_size, Slots}
use Rattle.prover.specs.Blocks.{part}
use Rattle.prover.specs.CallNumbers.{live, live_tables}
use Rattle.prover.proofs.Shifts.{shifted}
use Rattle.prover.proofs.SlotLaws.{slots_entries, slots_room}

-- a part by its ends
pub part_scan : (xs : List ℕ) (at n : ℕ) {t : Bool} → t ≡ canonical_words (take (4 * (at + n) - 4 * at) (drop (4 * at) xs)) → t ≡ canonical_words (part xs at n)
part_scan xs at n e = e ∙ ap (λ m. canonical_words (take m (drop (4 * at) xs))) {x = 4 * (at + n) - 4 * at} {y = 4 * n} (omega arith)

pub live_most : (e j : ℕ) → live e j ≤ e
unfolding live
live_most e j = by (eqb e 0) refl
  where
    by : (t : Bool) → eqb e 0 ≡ t → cond t 0 (max 1 (e / 2 ^ j)) ≤ e
    by true f = omega arith
    by false f = let some = eqb-false e 0 f in omega (arith, positive e some, div-le_self e (2 ^ j))
      where
        positive : (x : ℕ) → (x ≡ 0 → ⊥) → 0 < x
        positive x h = omega arith

pub live_start : (l : ℕ) (lists : List ℕ) (j : ℕ) (t : List ℕ) → true ≡ live_tables l lists j t 0
unfolding live_tables
live_start l lists j t = refl

-- a turn of the scan: the entries of height h that are left, n of them
module _ {l n : ℕ} {lists slots : List ℕ} (s : Slots l n lists slots) (t : List ℕ) (j h : ℕ) (below : h < l + n + 1) (count : ℕ)
    (is : count ≡ live (get_or slots (h + 1) 0 - get_or slots h 0) j) where
  pub live_is : count ≡ live (entries l lists h) j
  live_is = is ∙ ap (λ e. live e j) (slots_entries s h (omega arith))

  pub live-room : length t ≡ 4 * table_size l n lists → 4 * (get_or slots h 0 + count) ≤ length t
  live-room e = omega (arith, live_is, live_most (entries l lists h) j, slots_room s h (omega arith))

  module _ {ok good : Bool} (before : ok ≡ live_tables l lists j t h) (scan : good ≡ canonical_words (part t (get_or slots h 0) count)) where
    more : live_tables l lists j t (h + 1) ≡ ok && good
    unfolding live_tables
    more =
        ap (live_tables l lists j t) (add-one h)
        ∙ ap₂ ◌&&◌ (sym before) (ap₂ (λ a m. canonical_words (part t a m)) (sym (s.starts h (omega arith))) (sym live_is) ∙ sym scan)

    pub live_bad : {ok' : Bool} → not good ≡ true → ok' ≡ false → ok' ≡ live_tables l lists j t (h + 1)
    live_bad b f = f ∙ sym (more ∙ ap (λ v. ok && v) (not-true good b) ∙ and-false ok)

    pub live_fine : {ok' : Bool} → not good ≡ false → ok' ≡ ok → ok' ≡ live_tables l lists j t (h + 1)
    live_fine b f = f ∙ sym (more ∙ ap (λ v. ok && v) (not-false good b) ∙ and-true ok)

-- the entries that are left of the stack columns after j folds
module _ (q : List ℕ) (width n j : ℕ) (few : width ≤ 2 ^ 30) (most : n ≤ 20) where
  left_is : width * 2 ^ (n - j) % 18446744073709551616 ≡ width * 2 ^ (n - j)
  left_is = shifted width (n - j) few (omega arith)

  pub left-room : length q ≡ 4 * (width * 2 ^ n) → 4 * (0 + width * 2 ^ (n - j) % 18446744073709551616) ≤ length q
  left-room e = omega (arith, left_is, mul-le-mul_left {m = 2 ^ (n - j)} {n = 2 ^ n} width (pow_mono {i = n - j} {j = n} (omega arith)))

  pub left_scan : {t : Bool} → t ≡ canonical_words (part q 0 (width * 2 ^ (n - j) % 18446744073709551616)) → t ≡ canonical_words (part q 0 (width * 2 ^ (n - j)))
  left_scan e = e ∙ ap (λ m. canonical_words (part q 0 m)) left_is

-- the length of the stacked matrices, as the code has it
module _ (has width x : ℕ) (few : width ≤ 2 ^ 30) (most : x ≤ 24) where
  pub matrices_are : has ≡ width * 2 ^ x % 18446744073709551616 → has ≡ width * 2 ^ x
  matrices_are e = e ∙ shifted width x few most

  pub matrices-not : (has ≡ width * 2 ^ x % 18446744073709551616 → ⊥) → has ≡ width * 2 ^ x → ⊥
  matrices-not h e = h (e ∙ sym (shifted width x few most))
