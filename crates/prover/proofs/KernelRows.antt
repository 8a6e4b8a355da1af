-- The fold at u_0 by kernels: the kernels as they are made and taken apart, and that rows added up by them are folded rows.
use Rattle.std.proofs.Common.{◌≡◌, ℕ, zero, suc, ◌+◌, ◌-◌, ◌*◌, ◌/◌, ◌%◌, ◌^◌, ◌<◌, ◌≤◌, true, List, ◌++◌, length, get_or, take, drop, sym, refl, ap, ◌∙◌, arith, length-take, get_or-drop, get_or-append-add}
use mathlib.Core.Path.{subst⁻¹}
use native.Mathlib.Nat
use native.Mathlib.Decide.{dec_lt}
use lib.ListN.{get_or-append}
use Rattle.algebra.specs.Sum.{sum}
use Rattle.algebra.proofs.Powers.{shift_exact, two_pow-pos}
use Rattle.algebra.proofs.Sums.{sum_cong_below}
use Rattle.field.specs.Word.{p}
use Rattle.field.specs.Element.{Elem, F, ◌⊗◌, half_elem, words_of}
use Rattle.field.specs.Powers.{root}
use Rattle.field.specs.Slice.{elem_at, words_at, elem_words, canonical_words}
use Rattle.field.proofs.Elements.{canonical_words_of}
use Rattle.field.proofs.Slices.{canonical_below, canonical_all}
use Rattle.field.proofs.ElementWords.{elem_at_words, length-elem_words, get_d_elem_words, words_at-elem_words}
use Rattle.tables.specs.AtField.{lagrange_f}
use Rattle.tables.specs.KernelTable.{kernel_table, kernel_exit}
use Rattle.tables.specs.FoldPle.{fold_ple}
use Rattle.tables.proofs.KernelAnswers.{kernels_done}
use Rattle.prover.specs.Words.{Words}
use Rattle.prover.specs.RowSum.{from_words, coefficients, row_sum}
use Rattle.prover.specs.KernelTables.{Split, KernelsAt}
use Rattle.prover.proofs.Numbers.{four_words}

-- the number of kernels
pub order_is : (l : ℕ) → l ≤ 10 → 1 * 2 ^ l % 18446744073709551616 ≡ 2 ^ l
order_is l h = shift_exact l 64 (omega arith)

pub order_small : (l : ℕ) {n : ℕ} → l ≤ 10 → n ≡ 2 ^ l → n ≤ 1024
order_small l h e = let b : 2 ^ l ≤ 2 ^ 10 = Nat.pow-le-pow_right {n = 2} (omega arith) h in omega arith

-- fewer than four kernels are one or two
pub order_short : (l : ℕ) {n : ℕ} → n ≡ 2 ^ l → n < 4 → n ≤ 2
order_short zero e h = omega arith
order_short (suc zero) e h = omega arith
order_short (suc (suc l)) e h =
    let a : 2 ^ suc (suc l) ≡ 2 * (2 * 2 ^ l) = Nat.pow-succ' 2 (suc l) ∙ ap (λ m. 2 * m) (Nat.pow-succ' 2 l) in absurd (omega (arith, two_pow-pos l))

-- of four kernels or more there are whole groups of four
pub order_whole : (l : ℕ) {n : ℕ} → n ≡ 2 ^ l → 4 ≤ n → 4 * (n / 4) ≡ 2 ^ l
order_whole zero e h = absurd (omega arith)
order_whole (suc zero) e h = absurd (omega arith)
order_whole (suc (suc l)) e h = let a : 2 ^ suc (suc l) ≡ 2 * (2 * 2 ^ l) = Nat.pow-succ' 2 (suc l) ∙ ap (λ m. 2 * m) (Nat.pow-succ' 2 l) in omega arith

pub room_for : (m : ℕ) (xs : List ℕ) → m ≤ length xs → m ≡ length (take m xs)
room_for m xs h = let e = length-take m xs in omega arith

word_below : (x : Elem) (j : ℕ) → j < 4 → get_or (words_of x) j 0 < p
word_below x zero h = (canonical_words_of x).w0
word_below x (suc zero) h = (canonical_words_of x).w1
word_below x (suc (suc zero)) h = (canonical_words_of x).w2
word_below x (suc (suc (suc zero))) h = (canonical_words_of x).w3
word_below x (suc (suc (suc (suc j)))) h = absurd (omega arith)

elem_words-below : (n : ℕ) (f : ℕ → Elem) (k : ℕ) → k < 4 * n → get_or (elem_words n f) k 0 < p
elem_words-below n f k h =
    subst⁻¹ (λ v. v < p)
    (ap (λ m. get_or (elem_words n f) m 0) {x = k} {y = 4 * (k / 4) + k % 4} (omega arith) ∙ get_d_elem_words n f (k / 4) (k % 4) (omega arith) (omega arith))
    (word_below (f (k / 4)) (k % 4) (omega arith))

-- the kernels in the first 4·2^l words of a slice, the others as they were
module _ (l : ℕ) (u : Elem) (old : List ℕ) {n : ℕ} {part : List ℕ} (few : l ≤ 10) (e : n ≡ 2 ^ l) (fits : 4 * n ≤ length old) (made : part ≡ kernel_exit l u (take (4 * n) old)) where
  abbrev entries : List ℕ
  entries = elem_words (2 ^ l) (λ i. lagrange_f l i u)

  is : part ≡ entries
  unfolding kernel_table
  is = made ∙ sym (kernels_done l u (take (4 * n) old) few (sym (room_for (4 * n) old fits) ∙ ap (λ m. 4 * m) (e ∙ sym (order_is l few))) refl).1

  long : length part ≡ 4 * 2 ^ l
  long = ap length is ∙ length-elem_words (2 ^ l) (λ i. lagrange_f l i u)

  inside : (k : ℕ) → k < 4 * 2 ^ l → get_or (part ++ drop (4 * n) old) k 0 ≡ get_or entries k 0
  inside k h = get_or-append part (drop (4 * n) old) 0 k (omega (arith, long)) ∙ ap (λ xs. get_or xs k 0) is

  pub kernels_first : (i : ℕ) → i < 2 ^ l → words_at (part ++ drop (4 * n) old) i ≡ words_of (lagrange_f l i u)
  unfolding words_at
  kernels_first i h =
      four_words (inside (4 * i) (omega arith)) (inside (4 * i + 1) (omega arith)) (inside (4 * i + 2) (omega arith)) (inside (4 * i + 3) (omega arith))
      ∙ words_at-elem_words (2 ^ l) (λ i. lagrange_f l i u) i h

  pub kernels_made : canonical_words old ≡ true → KernelsAt l u (part ++ drop (4 * n) old)
  kernels_made z = record { entries = kernels_first; canonical = canonical_all (part ++ drop (4 * n) old) (λ k h. small k (dec_lt k (4 * 2 ^ l))) }
    where
      late : (k : ℕ) → length part + (k - 4 * 2 ^ l) ≡ k → get_or (part ++ drop (4 * n) old) k 0 < p
      late k q =
          subst⁻¹ (λ v. v < p)
          (ap (λ m. get_or (part ++ drop (4 * n) old) m 0) (sym q) ∙ get_or-append-add part (drop (4 * n) old) (k - 4 * 2 ^ l) 0 ∙ get_or-drop (4 * n) old (k - 4 * 2 ^ l) 0)
          (canonical_below old z (4 * n + (k - 4 * 2 ^ l)))

      small : (k : ℕ) → Dec (k < 4 * 2 ^ l) → get_or (part ++ drop (4 * n) old) k 0 < p
      small k (yes h) = subst⁻¹ (λ v. v < p) (inside k h) (elem_words-below (2 ^ l) (λ i. lagrange_f l i u) k h)
      small k (no h) = late k (omega (arith, long))

module _ (l : ℕ) (u : Elem) {k : List ℕ} (made : KernelsAt l u k) (q : List ℕ) (y : ℕ) where
  -- rows added up by the kernels as they stand
  pub short-rows : {n : ℕ} → n ≡ 2 ^ l → row_sum q (n * y) (elem_at k) n ≡ fold_ple F half_elem l (root l) (from_words q) u y
  unfolding row_sum fold_ple
  short-rows {n} e =
      sum_cong_below F n (λ i h. ap (λ x. from_words q (i + n * y) ⊗ x) (elem_at_words k i (lagrange_f l i u) (made.entries i (omega arith))))
      ∙ ap (λ m. sum F m (λ i. from_words q (i + m * y) ⊗ lagrange_f l i u)) e

  -- by their four tables
  pub table_rows_lem : {m : ℕ} {r : List ℕ} → 4 * m ≡ 2 ^ l → Split m k r → row_sum q (4 * m * y) (coefficients m r) (4 * m) ≡ fold_ple F half_elem l (root l) (from_words q) u y
  unfolding row_sum
  table_rows_lem {m} e s = sum_cong_below F (4 * m) (λ i h. ap (λ x. from_words q (i + 4 * m * y) ⊗ x) (s.elements i h)) ∙ short-rows e

-- all of a slice, in rows of n words
pub rows-length : (l : ℕ) {n : ℕ} (xs : List ℕ) (rows : ℕ) → n ≡ 2 ^ l → length xs ≡ 2 ^ l * rows → length xs ≡ n * rows
rows-length l xs rows e h = h ∙ ap (λ m. m * rows) (sym e)

pub whole_rows : (l : ℕ) {n : ℕ} (xs : List ℕ) (rows : ℕ) → n ≡ 2 ^ l → length xs ≡ 2 ^ l * rows → canonical_words xs ≡ true → Words xs (n * rows)
whole_rows l xs rows e h w = let k = rows-length l xs rows e h in record { room = omega arith; canonical = w }
