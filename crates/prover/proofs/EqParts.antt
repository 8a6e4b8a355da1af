-- A table written as one part of a slice: the words before it and after it stay.
use Rattle.std.proofs.Common.{◌≡◌, ℕ, ◌+◌, ◌-◌, ◌*◌, ◌%◌, ◌^◌, ◌<◌, ◌≤◌, min, true, cond, ◌&&◌, List, ◌++◌, length, get_or, take, drop, sym, refl, ap, ◌∙◌, ap₂, arith, length-append, length-drop, length-take, get_or-drop, get_or-take, get_or-append-add, eq-eqb}
use mathlib.Core.Path.{subst⁻¹}
use native.Mathlib.Nat
use lib.ListN.{get_or-append}
use Rattle.algebra.specs.Multilinear.{cube_factor}
use Rattle.algebra.proofs.Lists.{listed_cong}
use Rattle.algebra.proofs.Powers.{shift_exact}
use Rattle.field.specs.Word.{p}
use Rattle.field.specs.Element.{Elem, F, ◌⊗◌, elem_of}
use Rattle.field.specs.Canonical.{Canonical}
use Rattle.field.specs.Slice.{elem_at, words_at, elem_words, canonical_words}
use Rattle.field.proofs.Slices.{canonical_below, canonical_all}
use Rattle.field.proofs.FourWords.{canonical_four_lem}
use Rattle.field.proofs.ElementWords.{length-elem_words, words_at-elem_words}
use Rattle.tables.specs.Points.{coordinates, count}
use Rattle.tables.specs.EqTable.{eq_table, eq_table_fits, eq_table_exit}
use Rattle.prover.specs.Written.{Written}
use Rattle.prover.proofs.Numbers.{four_words}
use Rattle.prover.proofs.Parts.{part_word, part-element}

-- the words of m elements put in place of those from index `at` on; e is where they end
module _ (old ys : List ℕ) (at m : ℕ) (room : 4 * (at + m) ≤ length old) (size : length ys ≡ 4 * m) {k : ℕ} (ek : k ≡ 4 * m) where
  abbrev whole : List ℕ
  whole = take (4 * at) old ++ (ys ++ drop k (drop (4 * at) old))

  front : length (take (4 * at) old) ≡ 4 * at
  front = length-take (4 * at) old ∙ least (4 * at) (length old) (omega arith)
    where
      least : (a b : ℕ) → a ≤ b → min a b ≡ a
      least a b h = omega arith

  word_before : (i : ℕ) → i < 4 * at → get_or whole i 0 ≡ get_or old i 0
  word_before i h = get_or-append (take (4 * at) old) _ 0 i (omega (arith, front)) ∙ get_or-take (4 * at) old i 0 h

  word_here : (i : ℕ) → i < 4 * m → get_or whole (4 * at + i) 0 ≡ get_or ys i 0
  word_here i h =
      ap (λ j. get_or whole j 0) {x = 4 * at + i} {y = length (take (4 * at) old) + i} (omega (arith, front))
      ∙ get_or-append-add (take (4 * at) old) _ i 0 ∙ get_or-append ys _ 0 i (omega arith)

  word_after_lem : (i : ℕ) → get_or whole (4 * (at + m) + i) 0 ≡ get_or old (4 * (at + m) + i) 0
  word_after_lem i =
      ap (λ j. get_or whole j 0) {x = 4 * (at + m) + i} {y = length (take (4 * at) old) + (length ys + i)} (omega (arith, front))
      ∙ get_or-append-add (take (4 * at) old) _ (length ys + i) 0 ∙ get_or-append-add ys _ i 0
      ∙ get_or-drop k (drop (4 * at) old) i 0 ∙ get_or-drop (4 * at) old (k + i) 0
      ∙ ap (λ j. get_or old j 0) {x = 4 * at + (k + i)} {y = 4 * (at + m) + i} (omega arith)

  pub part_length : length whole ≡ length old
  part_length =
      length-append (take (4 * at) old) (ys ++ drop k (drop (4 * at) old))
      ∙ ap₂ ◌+◌ front (length-append ys (drop k (drop (4 * at) old)) ∙ ap₂ ◌+◌ size (length-drop k (drop (4 * at) old) ∙ ap (λ j. j - k) (length-drop (4 * at) old)))
      ∙ all (length old) room
    where
      all : (n : ℕ) → 4 * (at + m) ≤ n → 4 * at + (4 * m + (n - 4 * at - k)) ≡ n
      all n h = omega arith

  pub written-part : (f : ℕ → Elem) → ys ≡ elem_words m f → Written old at m f whole
  unfolding words_at
  written-part f e = record {
    elements = λ i h.
        four_words (here (4 * (at + i)) (4 * i) (omega arith) (omega arith)) (here (4 * (at + i) + 1) (4 * i + 1) (omega arith) (omega arith)) (here (4 * (at + i) + 2) (4 * i + 2) (omega arith) (omega arith)) (here (4 * (at + i) + 3) (4 * i + 3) (omega arith) (omega arith))
        ∙ ap (λ xs. words_at xs i) e ∙ words_at-elem_words m f i h;
    before = λ i h. four_words (word_before (4 * i) (omega arith)) (word_before (4 * i + 1) (omega arith)) (word_before (4 * i + 2) (omega arith)) (word_before (4 * i + 3) (omega arith));
    after = λ i h. four_words (later (4 * i) (omega arith)) (later (4 * i + 1) (omega arith)) (later (4 * i + 2) (omega arith)) (later (4 * i + 3) (omega arith));
    length_kept = part_length;
  }
    where
      here : (a b : ℕ) → a ≡ 4 * at + b → b < 4 * m → get_or whole a 0 ≡ get_or ys b 0
      here a b e h = ap (λ j. get_or whole j 0) e ∙ word_here b h

      later : (a : ℕ) → 4 * (at + m) ≤ a → get_or whole a 0 ≡ get_or old a 0
      later a h =
          ap (λ j. get_or whole j 0) {x = a} {y = 4 * (at + m) + (a - 4 * (at + m))} (omega arith) ∙ word_after_lem (a - 4 * (at + m))
          ∙ ap (λ j. get_or old j 0) {x = 4 * (at + m) + (a - 4 * (at + m))} {y = a} (omega arith)

-- the number of entries, as the code has it
pub entries_code : (n : ℕ) → n ≤ 20 → 1 * 2 ^ n % 18446744073709551616 ≡ 2 ^ n
entries_code n h = shift_exact n 64 (omega arith)

-- the eq table of r_1 to r_n with a starting element
module _ (start : List ℕ) (fine : Canonical start) (r old : List ℕ) (at n : ℕ) (low : n ≤ 20) (long : 4 * (n + 1) ≤ length r) (words : canonical_words r ≡ true) (room : 4 * (at + 2 ^ n) ≤ length old) where
  abbrev e : ℕ
  e = 1 * 2 ^ n % 18446744073709551616

  abbrev point : List ℕ
  point = take (4 * (n + 1) - 4) (drop 4 r)

  abbrev place : List ℕ
  place = take (4 * (at + e) - 4 * at) (drop (4 * at) old)

  point-size : length point ≡ 4 * n
  point-size = length-take (4 * (n + 1) - 4) (drop 4 r) ∙ (let d : length (drop 4 r) ≡ length r - 4 = length-drop 4 r in omega arith)

  place-size : length place ≡ 4 * 2 ^ n
  place-size = length-take (4 * (at + e) - 4 * at) (drop (4 * at) old) ∙ (let d : length (drop (4 * at) old) ≡ length old - 4 * at = length-drop (4 * at) old in omega (arith, entries_code n low))

  point_words : canonical_words point ≡ true
  point_words = canonical_all point (λ k h. subst⁻¹ (λ v. v < p) (part_word r 4 (4 * (n + 1) - 4) k (omega (arith, point-size))) (canonical_below r words (4 + k)))

  few : count point ≡ n
  few = omega (arith, point-size)

  abbrev entry : ℕ → Elem
  entry x = elem_of start ⊗ cube_factor F (coordinates r 1 n) x

  exit_is : eq_table_exit start point place ≡ elem_words (2 ^ n) entry
  unfolding eq_table_exit eq_table eq_table_fits
  exit_is =
      ap₂ (λ s t. cond (s && t) (elem_words (2 ^ count point) (λ x. elem_of start ⊗ cube_factor F (coordinates point 0 (count point)) x)) place) fits
      (ap₂ ◌&&◌ point_words (canonical_four_lem start fine))
      ∙ ap (λ m. elem_words (2 ^ m) (λ x. elem_of start ⊗ cube_factor F (coordinates point 0 m) x)) few
      ∙ ap (λ us. elem_words (2 ^ n) (λ x. elem_of start ⊗ cube_factor F us x)) (listed_cong n (λ i h. ap (elem_at point) (Nat.zero-add i) ∙ part-element r 1 n {a = 4} {m = 4 * (n + 1) - 4} refl (omega arith) i h))
    where
      fits : eq_table_fits point place ≡ true
      fits = ap₂ ◌&&◌ (eq-eqb (length point % 4) 0 (omega (arith, point-size))) (eq-eqb (length place) (4 * 2 ^ count point) (place-size ∙ ap (λ m. 4 * 2 ^ m) (sym few)))

  pub table_written : {ys : List ℕ} → ys ≡ eq_table_exit start point place
      → Written old at (2 ^ n) entry (take (4 * at) old ++ (ys ++ drop (4 * (at + e) - 4 * at) (drop (4 * at) old)))
  table_written {ys} is =
      written-part old ys at (2 ^ n) room (ap length (is ∙ exit_is) ∙ length-elem_words (2 ^ n) _) {k = 4 * (at + e) - 4 * at} (omega (arith, entries_code n low)) entry (is ∙ exit_is)
