-- What an accepted fold of a round leaves in the work buffers: where they are still read, the tables folded once more.
use mathlib.Core.Path.{◌≡◌, sym, ◌∙◌, ap, ap₂, fun_ext}
use mathlib.Core.Bool.{Bool, true, false, cond}
use mathlib.Core.List.{List, [], ◌∷◌, ◌++◌}
use Prim.Native.Nat.{ℕ, suc, ◌+◌, ◌-◌, ◌*◌, ◌/◌, ◌^◌, ◌<◌, ◌≤◌}
use native.Mathlib.Nat
use native.Mathlib.Omega.{arith}
use native.Mathlib.Decide.{dec_lt}
use lib.Dec.{leb, ltb}
use lib.ListN.{length, length-append}
use borrow.Author.Tests.{lt-ltb, le-ltb, le-leb, lt-leb, eq-eqb}
use Rattle.algebra.specs.Multilinear.{fold_mle}
use Rattle.field.specs.Element.{Elem, F, elem_of, words_of}
use Rattle.field.specs.Slice.{elem_at, words_at}
use Rattle.field.proofs.Elements.{elem_of_words_of, length_words_of}
use Rattle.field.proofs.ElementWords.{elem_of_words_at}
use Rattle.prover.specs.declared.turns.Turn.{Turn}
use Rattle.prover.specs.Given.{Given, Work, run, columns, stacked}
use Rattle.prover.specs.Slots.{occurs, entries, slot_start}
use Rattle.prover.specs.Blocks.{folded_words}
use Rattle.prover.specs.Written.{elems_from}
use Rattle.prover.specs.OwnSum.{tables_of, folded_tables}
use Rattle.prover.specs.CallNumbers.{fold_number}
use Rattle.prover.specs.Calls.{leaves, fold_values, fold_tables, fold_weights, fold_work}
use Rattle.reduction.proofs.BufferLaws.{elem_at_elem_words, elem_at_blocks, length-words_at}
use Rattle.reduction.proofs.LiveEntries.{power_over, power_under}
use Rattle.prover.proofs.SlotLaws.{entries-some}
use Rattle.reduction.proofs.SlotTables.{elem_at_tables}
use Rattle.reduction.proofs.Stands.{Laid, Stands}
use Rattle.reduction.proofs.StandsFolded.{stands_fold}

pub leaves_new : (number : ℕ) (new old : List ℕ) → number ≡ 0 → leaves number new old ≡ new
unfolding leaves
leaves_new number new old e = ap (λ b. cond b new old) (eq-eqb number 0 e)

module _ (xs : List ℕ) (at half : ℕ) (x : Elem) where
  pub folded-four : (i : ℕ) → length (folded_words xs at half x i) ≡ 4
  unfolding folded_words
  folded-four i = by (ltb i half) (ltb i (2 * half))
    where
      by : (a b : Bool) → length (cond a (words_of (fold_mle F (elems_from xs at) x i)) (cond b (words_of F.zero) (words_at xs (at + i)))) ≡ 4
      by true b = length_words_of _
      by false true = length_words_of _
      by false false = length-words_at xs (at + i)

  folded_first : (i : ℕ) → i < half → elem_of (folded_words xs at half x i) ≡ fold_mle F (elems_from xs at) x i
  unfolding folded_words
  folded_first i h =
      ap (λ b. elem_of (cond b (words_of (fold_mle F (elems_from xs at) x i)) (cond (ltb i (2 * half)) (words_of F.zero) (words_at xs (at + i))))) (lt-ltb i half h)
      ∙ elem_of_words_of _

  folded_none : (i : ℕ) → half ≡ 0 → elem_of (folded_words xs at half x i) ≡ elems_from xs at i
  unfolding folded_words
  folded_none i e =
      ap₂ (λ a b. elem_of (cond a (words_of (fold_mle F (elems_from xs at) x i)) (cond b (words_of F.zero) (words_at xs (at + i)))))
      (le-ltb i half (omega arith)) (le-ltb i (2 * half) (omega arith))
      ∙ elem_of_words_at xs (at + i)

-- the packed stack columns
pub elem_at_fold_values : (n width j : ℕ) (x : Elem) (q : List ℕ) (c y : ℕ) → c < width → y < 2 ^ (n - j)
    → elem_at (fold_values n width j x q) (c * 2 ^ (n - j) + y) ≡ fold_mle F (elem_at q) x (c * 2 ^ (n - j) + y)
unfolding fold_values
elem_at_fold_values n width j x q c y h s =
    elem_at_blocks (width * 2 ^ n) (folded_words q 0 (width * 2 ^ (n - j)) x) (folded-four q 0 (width * 2 ^ (n - j)) x) (c * 2 ^ (n - j) + y)
    (omega (arith, below, Nat.mul-le-mul_left width (Nat.pow-le-pow_right {n = 2} (omega arith) {i = n - j} {j = n} (omega arith))))
    ∙ folded_first q 0 (width * 2 ^ (n - j)) x (c * 2 ^ (n - j) + y) below
    ∙ ap (λ f. fold_mle F f x (c * 2 ^ (n - j) + y)) (fun_ext (λ i. ap (elem_at q) (Nat.zero-add i)))
  where
    below : c * 2 ^ (n - j) + y < width * 2 ^ (n - j)
    below = omega (arith, Nat.mul-le-mul_right {m = suc c} {n = width} (2 ^ (n - j)) h, Nat.suc-mul c (2 ^ (n - j)))

-- a table of a height that occurs
module _ (l n : ℕ) (lists : List ℕ) (j : ℕ) (x : Elem) (t : List ℕ) (h : ℕ) (there : occurs lists h ≡ true) (small : h ≤ l + n) where
  pub elem_at_fold_tables : (y : ℕ) → y < 2 ^ (h - l - j)
      → elem_at (fold_tables l n lists j x t) (slot_start l lists h + y)
      ≡ cond (leb j (h - l)) (fold_mle F (elems_from t (slot_start l lists h)) x) (elems_from t (slot_start l lists h)) y
  unfolding fold_tables
  elem_at_fold_tables y s =
      elem_at_tables l lists n (λ h. folded_words t (slot_start l lists h) (entries l lists h / 2 ^ j) x)
      (λ h. folded-four t (slot_start l lists h) (entries l lists h / 2 ^ j) x) h y small
      (rw (entries-some l lists h there) (omega (arith, Nat.pow-le-pow_right {n = 2} (omega arith) {i = h - l - j} {j = h - l} (omega arith))))
      ∙ by (dec_lt (h - l) j)
    where
      by : Dec (h - l < j) → elem_of (folded_words t (slot_start l lists h) (entries l lists h / 2 ^ j) x y)
          ≡ cond (leb j (h - l)) (fold_mle F (elems_from t (slot_start l lists h)) x) (elems_from t (slot_start l lists h)) y
      by (yes d) =
          folded_none t (slot_start l lists h) (entries l lists h / 2 ^ j) x y
          (ap (λ e. e / 2 ^ j) (entries-some l lists h there) ∙ power_under (h - l) j d)
          ∙ ap (λ b. cond b (fold_mle F (elems_from t (slot_start l lists h)) x) (elems_from t (slot_start l lists h)) y) (sym (lt-leb j (h - l) d))
      by (no d) =
          folded_first t (slot_start l lists h) (entries l lists h / 2 ^ j) x y (rw half s)
          ∙ ap (λ b. cond b (fold_mle F (elems_from t (slot_start l lists h)) x) (elems_from t (slot_start l lists h)) y) (sym (le-leb j (h - l) (omega arith)))
        where
          half : entries l lists h / 2 ^ j ≡ 2 ^ (h - l - j)
          half = ap (λ e. e / 2 ^ j) (entries-some l lists h there) ∙ power_over (h - l) j (omega arith)

-- a fold that is accepted with the run's own arguments
module _ (g : Given) (laid : Laid g) (cells : ℕ → Elem) (u : Elem) (us : List Elem) (t : Turn) (v : List ℕ) (w : Work)
    (stands : Stands g cells u us (tables_of g.skip g.lists w)) (more : length us < g.stack) (accepted : fold_number g t (suc (length us)) v w ≡ 0) where
  longer : length (us ++ (elem_of v ∷ [])) ≡ suc (length us)
  longer = length-append us (elem_of v ∷ []) ∙ (let e : length us + 1 ≡ suc (length us) = omega arith in e)

  folds : Stands g cells u (us ++ (elem_of v ∷ [])) (folded_tables (run g) (suc (length us)) (elem_of v) (tables_of g.skip g.lists w))
  folds = stands_fold g cells u us (elem_of v) (tables_of g.skip g.lists w) stands more

  pub stands_fold_work : Stands g cells u (us ++ (elem_of v ∷ [])) (tables_of g.skip g.lists (fold_work g t (suc (length us)) v w))
  unfolding tables_of fold_work fold_weights folded_tables
  stands_fold_work =
      record {
        values = λ c y p q.
            ap (λ xs. elem_at xs (c * 2 ^ (g.stack - length (us ++ (elem_of v ∷ []))) + y)) (leaves_new _ _ w.q accepted)
            ∙ ap (λ i. elem_at (fold_values g.stack (stacked g) (suc (length us)) (elem_of v) w.q) (c * 2 ^ (g.stack - i) + y)) longer
            ∙ elem_at_fold_values g.stack (stacked g) (suc (length us)) (elem_of v) w.q c y p (rw longer at q)
            ∙ ap (λ i. fold_mle F (elem_at w.q) (elem_of v) (c * 2 ^ (g.stack - i) + y)) (sym longer) ∙ folds.values c y p q;
        eq = λ k y p q.
            ap (λ xs. elem_at xs (slot_start g.skip g.lists ((run g).log k) + y)) (leaves_new _ _ w.eq accepted)
            ∙ elem_at_fold_tables g.skip g.stack g.lists (suc (length us)) (elem_of v) w.eq ((run g).log k) (laid.there k p)
            (laid.planned.fits k p).log y (rw longer at q) ∙ folds.eq k y p q;
        rot = λ k y p q.
            ap (λ xs. elem_at xs (slot_start g.skip g.lists ((run g).log k) + y)) (leaves_new _ _ w.rot accepted)
            ∙ elem_at_fold_tables g.skip g.stack g.lists (suc (length us)) (elem_of v) w.rot ((run g).log k) (laid.there k p)
            (laid.planned.fits k p).log y (rw longer at q) ∙ folds.rot k y p q;
        weight = λ k p.
            ap (λ xs. elem_at xs k) (leaves_new _ _ w.ub accepted) ∙ elem_at_elem_words (columns g) _ k p ∙ folds.weight k p;
      }
