-- Traces: the list with log heights has the widths and flags of the list with heights; what a stacking that is not refused
-- knows. Assumes nothing.
use Prim.Native.Nat.{ℕ, zero, suc, ◌*◌, ◌%◌, ◌<◌, ◌≤◌}
use mathlib.Core.Path.{◌≡◌, refl, sym, ap, ◌∙◌}
use mathlib.Core.Bool.{not}
use mathlib.Core.List.{List, ◌++◌}
use native.Mathlib.Omega.{arith}
use lib.ListN.{length, get_or, take}
use lib.Seq.{take_at}
use lib.Dec.{eqb}
use borrow.Author.Tests.{eq-eqb, ne_eqb, eqb-true, not-false}
use Rattle.algebra.proofs.Lists.{length-listed, get_d_listed}
use Rattle.std.specs.declared.result.Result.{Result}
use Rattle.field.specs.declared.answer.Refusal.{Refusal}
use Rattle.layout.specs.declared.stacked_pcs.StackedLayout.{StackedLayout}
use Rattle.layout.specs.Checks.{refuse}
use Rattle.layout.specs.Triples.{count_of, width_at, columns_before, column_count}
use Rattle.layout.specs.Placing.{height, stack_width}
use Rattle.layout.specs.Refusals.{shape_number, laid_number}
use Rattle.layout.specs.Logs.{log_word, logged, heights_number}
use Rattle.layout.specs.Stacked.{cell_count, stacked_matrix}
use Rattle.layout.specs.Planning.{laid_out}
use Rattle.layout.specs.Stacking.{trace_number, cells_number, stacking_number, filled_by, stacked_of, stacked_into}
use Rattle.layout.specs.Shaped.{Shaped, Laid, Fillable}
use Rattle.layout.proofs.Firsts.{or_passed, or_skip, or_stop, is_false}
use Rattle.layout.proofs.Passed.{shape_passed, planned-shaped, planned-columns, laid_passed}

pub logged-length : (list : List ℕ) → length (logged list) ≡ 3 * count_of list
logged-length list = length-listed (3 * count_of list) (log_word list)

pub logged-count : (list : List ℕ) → count_of (logged list) ≡ count_of list
logged-count list = omega (arith, logged-length list)

-- a word that is no height stays
word_kept : (list : List ℕ) (k : ℕ) → k < 3 * count_of list → (k % 3 ≡ 1 → ⊥) → get_or (logged list) k 0 ≡ get_or list k 0
unfolding log_word
word_kept list k h e = get_d_listed (3 * count_of list) (log_word list) k 0 h ∙ simp (ne_eqb (k % 3) 1 e)

pub logged-width : (list : List ℕ) (i : ℕ) → i < count_of list → width_at (logged list) i ≡ width_at list i
logged-width list i h = word_kept list (3 * i) (omega arith) (λ e. omega arith)

logged-columns : (list : List ℕ) (i : ℕ) → i ≤ count_of list → columns_before (logged list) i ≡ columns_before list i
unfolding columns_before
logged-columns list zero h = refl
logged-columns list (suc i) h = omega (arith, logged-columns list i (omega arith), logged-width list i h)

pub logged-total : (list : List ℕ) → column_count (logged list) ≡ column_count list
logged-total list = ap (columns_before (logged list)) (logged-count list) ∙ logged-columns list (count_of list) (omega arith)

pub logged-shaped : (l n : ℕ) (list : List ℕ) → Shaped l n list → Shaped l n (logged list)
logged-shaped l n list s =
    record {
      skip = s.skip;
      stack = s.stack;
      sum = s.sum;
      few = omega (arith, logged-count list, s.few);
      widths = λ i h. omega (arith, logged-width list i (omega (arith, logged-count list)), s.widths i (omega (arith, logged-count list)));
    }

-- 1, 2 and 3 passed
pub trace_shaped : (l n : ℕ) (list : List ℕ) → trace_number l n list ≡ 0 → Shaped l n (logged list) × (column_count (logged list) ≤ 4096)
unfolding trace_number
trace_shaped l n list e =
    let p = shape_passed l n list (or_passed (shape_number l n list) (heights_number list) e).0 in
    (logged-shaped l n list (planned-shaped l n list p), omega (arith, logged-total list, planned-columns l n list p))

pub trace_few : (l n : ℕ) (list : List ℕ) → trace_number l n list ≡ 0 → count_of list ≤ 4096
unfolding trace_number
trace_few l n list e = (shape_passed l n list (or_passed (shape_number l n list) (heights_number list) e).0).few

-- all passed
module _ (l n : ℕ) (list : List ℕ) (over : ℕ) (cells : List ℕ) (places : ℕ) where
  pub cells_laid : Shaped l n list → cells_number l n list over cells places ≡ 0 → Laid l n list
  unfolding cells_number
  cells_laid s e = laid_passed l n (count_of list) list s (or_passed (laid_number l n (count_of list) list) _ e).0

  pub cells_fillable : Shaped l n list → cells_number l n list over cells places ≡ 0 → Fillable l n list cells places
  unfolding cells_number
  cells_fillable s e =
      let a = or_passed (laid_number l n (count_of list) list) _ e in
      let b = or_passed (refuse 7 (eqb (column_count list) 0)) _ a.1 in
      let c = or_passed (refuse 9 (not (eqb over 0))) _ b.1 in
      let d = or_passed (refuse 9 (not (eqb (length cells) (cell_count list)))) _ c.1 in
      let f = or_passed (refuse 9 (not (eqb places (stack_width l n (count_of list) list * height l n)))) _ d.1 in
      record {
        laid = laid_passed l n (count_of list) list s a.0;
        cells_size = eqb-true _ _ (not-false _ (is_false 9 _ (omega arith) d.0));
        places_size = eqb-true _ _ (not-false _ (is_false 9 _ (omega arith) f.0));
      }

module _ (l n : ℕ) (list cells : List ℕ) (number : ℕ) (out : List ℕ) where
  pub filled-refused : (number ≡ 0 → ⊥) → out ≡ filled_by l n list cells number out
  unfolding filled_by
  filled-refused h = simp (ne_eqb number 0 h)

  pub filled_done : (ys : List ℕ) → number ≡ 0 → ys ≡ stacked_matrix l n list cells → ys ≡ filled_by l n list cells number out
  unfolding filled_by
  filled_done ys z f = simp (eq-eqb number 0 z) f

-- the whole call
module _ (l n : ℕ) (list cells : List ℕ) (places : ℕ) where
  pub stacking_refused : (trace_number l n list ≡ 0 → ⊥) → trace_number l n list ≡ stacking_number l n list cells places
  unfolding stacking_number
  stacking_refused h = sym (or_stop (trace_number l n list) _ h)

  stacking_passed : trace_number l n list ≡ 0 → stacking_number l n list cells places ≡ cells_number l n (logged list) (length list % 3) cells places
  unfolding stacking_number
  stacking_passed z = or_skip (trace_number l n list) _ z

  pub whole_done : (r : Result StackedLayout Refusal) (logs : List ℕ) (over : ℕ) → trace_number l n list ≡ 0 → logs ≡ logged list → over ≡ length list % 3
      → r ≡ laid_out l n logs (cells_number l n logs over cells places) → r ≡ stacked_of l n list cells places
  unfolding stacked_of
  whole_done r logs over z e f g = simp (stacking_passed z, ← e, ← f) g

module _ (l n : ℕ) (list cells out : List ℕ) where
  pub into_refused' : (trace_number l n list ≡ 0 → ⊥) → out ≡ stacked_into l n list cells out
  unfolding stacked_into
  into_refused' h = filled-refused l n (logged list) cells _ out (λ z. h (stacking_refused l n list cells (length out) h ∙ z))

  pub into_done' : (ys logs : List ℕ) (over : ℕ) → trace_number l n list ≡ 0 → logs ≡ logged list → over ≡ length list % 3
      → ys ≡ filled_by l n logs cells (cells_number l n logs over cells (length out)) out → ys ≡ stacked_into l n list cells out
  unfolding stacked_into
  into_done' ys logs over z e f g = simp (stacking_passed l n list cells (length out) z, ← e, ← f) g

-- the front of the array of logs
pub logs_front : (list logs rest : List ℕ) (k : ℕ) → logs ≡ logged list ++ rest → k ≡ 3 * count_of list → take k logs ≡ logged list
logs_front list logs rest k e h = ap (take k) e ∙ take_at (logged list) rest k (logged-length list ∙ sym h)
