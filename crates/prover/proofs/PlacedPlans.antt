-- Lists that are not refused place every column of a run below the stack width; so does a plan whose number is 0.
use Rattle.std.proofs.Common.{◌≡◌, ℕ, suc, ◌+◌, ◌/◌, ◌^◌, ◌<◌, ◌≤◌, Bool, List, refl, mul-le-mul_right, div-lt_iff_lt-mul, add-mul, div-add-mod', arith, pow_pos}
use mathlib.Core.Path.{subst⁻¹}
use Rattle.layout.specs.declared.columns.Column.{Column}
use Rattle.layout.specs.Triples.{count_of, width_at, log_at, column_count}
use Rattle.layout.specs.Placing.{height, slice_length, matrix_length, matrix_start, column_start, stack_width}
use Rattle.layout.specs.Columns.{column_at}
use Rattle.layout.specs.Lists.{first_count}
use Rattle.layout.proofs.Slices.{slice-pos}
use Rattle.layout.proofs.Parts.{matrix_ends, starts_mono, start_multiple}
use Rattle.layout.proofs.Bounds.{column-found}
use Rattle.layout.proofs.RunLaws.{Listed}
use Rattle.weights.proofs.PlacedColumns.{column_fits, lists_walked, stacked-small}
use Rattle.prover.specs.declared.plans.Plan.{Plan}
use Rattle.prover.specs.Given.{Given, Work}
use Rattle.prover.specs.CallNumbers.{Planned}
use Rattle.prover.specs.Live.{Placed}
use Rattle.prover.proofs.SlotLaws.{column-occurs}
use Rattle.prover.proofs.CallsPassed.{GivenReady}

-- every column starts below the end of the last stack column
module _ (l n first : ℕ) (list : List ℕ) (few : first ≤ count_of list) where
  column-ends : (i j : ℕ) → j < width_at list i → column_start l n first list i j + slice_length l (log_at list i) ≤ matrix_start l n first list i + matrix_length l list i
  unfolding matrix_length
  column-ends i j h =
      omega (arith, add-mul j 1 (slice_length l (log_at list i)), mul-le-mul_right {m = j + 1} {n = width_at list i} (slice_length l (log_at list i)) (omega arith))

  start_inside : (i j : ℕ) → i < count_of list → j < width_at list i → column_start l n first list i j / height l n < stack_width l n first list
  start_inside i j h k =
      (div-lt_iff_lt-mul {k = height l n} {x = column_start l n first list i j} {y = stack_width l n first list} (pow_pos (l + n))).1
      (omega (
        arith,
        start_multiple l n first list (count_of list) few,
        div-add-mod' (matrix_start l n first list (count_of list)) (height l n),
        column-ends i j k,
        slice-pos l (log_at list i),
        matrix_ends l n first list i,
        starts_mono l n first list (suc i) (count_of list) h,
      ))

  column-inside : (k : ℕ) → k < column_count list → (column_at l n first list k).start / 2 ^ (l + n) < stack_width l n first list
  column-inside k h =
      let f = column-found l n first list k h in
      subst⁻¹ (λ (c : Column). c.start / 2 ^ (l + n) < stack_width l n first list) f.is (start_inside f.matrix f.column f.there f.within)

-- lists that are not refused
pub lists-placed : {l n : ℕ} {counts lists : List ℕ} → Listed l n counts lists → (columns : ℕ) → columns ≡ column_count lists
    → Placed l n (first_count counts) lists columns (stack_width l n (first_count counts) lists)
lists-placed {l} {n} {counts} {lists} listed columns all = record {
  limit = listed.laid.shaped.skip;
  stack = listed.laid.shaped.stack;
  sum = listed.laid.shaped.sum;
  few = stacked-small listed;
  walked = lists_walked listed (first_count counts) columns refl all;
  fits = column_fits listed;
  inside = column-inside l n (first_count counts) lists (omega (arith, listed.size));
  there = column-occurs lists l n (first_count counts);
}

-- a plan places every column
pub plan-placed : {g : Given} {turned : Bool} {w : Work} {s : Plan} {number : ℕ} → Planned g number s → GivenReady g turned w
    → Placed g.skip g.stack s.first g.lists s.columns s.stacked
plan-placed {g} {s = s} is ready =
    subst⁻¹ (λ f. Placed g.skip g.stack f g.lists s.columns s.stacked) is.is_first
    (subst⁻¹ (Placed g.skip g.stack (first_count g.counts) g.lists s.columns) is.is_stacked (lists-placed ready.listed s.columns is.is_columns))
