-- What an accepted stacking says of its commitment: nothing of its matrices is refused, and its cells stand in its stacked matrix.
use mathlib.Core.Path.{◌≡◌, sym, ◌∙◌, ap, subst}
use mathlib.Core.Bool.{true, cond, not}
use mathlib.Core.List.{List}
use Prim.Native.Nat.{ℕ, suc, ◌+◌, ◌*◌, ◌%◌, ◌<◌, ◌≤◌, min}
use native.Mathlib.Omega.{arith}
use lib.ListN.{length}
use lib.Dec.{ltb, eqb}
use borrow.Author.Tests.{ltb-false, lt-ltb, eq-eqb, ne_eqb, eqb-false, not-false}
use Rattle.algebra.proofs.Lists.{get_d_listed}
use Rattle.field.specs.Slice.{canonical_words}
use Rattle.layout.specs.Checks.{refuse}
use Rattle.layout.specs.Triples.{count_of, width_at, flag_at, columns_before, column_count}
use Rattle.layout.specs.Placing.{height, stack_width}
use Rattle.layout.specs.Refusals.{limits_number, flag_number, columns_in, place_number, walk_number, rise_number, laid_number, shape_number}
use Rattle.layout.specs.Logs.{log_word, logged}
use Rattle.layout.specs.Stacked.{cell_count, stacked_matrix}
use Rattle.layout.specs.Stacking.{cells_number, trace_number, stacking_number, filled_by, stacked_into}
use Rattle.layout.proofs.Firsts.{or_passed, is_false, first_all, positive}
use Rattle.layout.proofs.Passed.{shape_passed}
use Rattle.layout.proofs.Turns.{before_mono}
use Rattle.layout.proofs.Traces.{logged-length, logged-count, trace_shaped, trace_few, cells_fillable}
use Rattle.reduction.specs.HonestBatch.{Commitment}
use Rattle.reduction.proofs.StackedCells.{stacked-below, stacked-ends, stacked-cell}
use Rattle.reduction.proofs.Stacks.{Stacks}

module _ (l n : ℕ) (c : Commitment) (accepted : stacking_number l n c.heights c.cells (length c.lent) ≡ 0) where
  abbrev logs : List ℕ
  logs = logged c.heights

  trace : trace_number l n c.heights ≡ 0
  unfolding stacking_number
  trace = (or_passed (trace_number l n c.heights) _ accepted).0

  rest : cells_number l n logs (length c.heights % 3) c.cells (length c.lent) ≡ 0
  unfolding stacking_number
  rest = (or_passed (trace_number l n c.heights) _ accepted).1

  pub within_limits : limits_number l n ≡ 0
  unfolding trace_number
  within_limits = (shape_passed l n c.heights (or_passed (shape_number l n c.heights) _ trace).0).limits

  pub count_few : count_of c.heights ≤ 4096
  count_few = trace_few l n c.heights trace

  flag_kept : (i : ℕ) → i < count_of c.heights → flag_at logs i ≡ flag_at c.heights i
  unfolding log_word
  flag_kept i h =
      get_d_listed (3 * count_of c.heights) (log_word c.heights) (3 * i + 2) 0 (omega arith)
      ∙ simp (ne_eqb ((3 * i + 2) % 3) 1 (omega arith))

  flag_low : (i : ℕ) → i < count_of logs → flag_at logs i ≤ 1
  unfolding trace_number flag_number
  flag_low i h =
      let k : i < count_of c.heights = omega (arith, logged-count c.heights) in
      let flags = (shape_passed l n c.heights (or_passed (shape_number l n c.heights) _ trace).0).flags in
      omega (
        arith,
        flag_kept i k,
        ltb-false 1 (flag_at c.heights i)
            (is_false 1 (ltb 1 (flag_at c.heights i)) (omega arith) (first_all (count_of c.heights) (flag_number c.heights) flags i k)),
      )

  columns_low : (i : ℕ) → i < count_of logs → columns_in (count_of logs) logs i ≤ 4096
  unfolding columns_in
  columns_low i h =
      let e : columns_in (count_of logs) logs i ≡ columns_before logs (suc i) = ap (λ b. cond b (columns_before logs (suc i)) (width_at logs i)) (lt-ltb i (count_of logs) h) in
      omega (arith, e, before_mono logs (suc i) (count_of logs) h, (trace_shaped l n c.heights trace).1)

  laid : laid_number l n (count_of logs) logs ≡ 0
  unfolding cells_number
  laid = (or_passed (laid_number l n (count_of logs) logs) _ rest).0

  some-column : 0 < column_count logs
  unfolding cells_number
  some-column =
      let b = or_passed (refuse 7 (eqb (column_count logs) 0)) _ (or_passed (laid_number l n (count_of logs) logs) _ rest).1 in
      positive (column_count logs) (eqb-false (column_count logs) 0 (is_false 7 (eqb (column_count logs) 0) (omega arith) b.0))

  cells-below : canonical_words c.cells ≡ true
  unfolding cells_number
  cells-below =
      let a = or_passed (laid_number l n (count_of logs) logs) _ rest in
      let b = or_passed (refuse 7 (eqb (column_count logs) 0)) _ a.1 in
      let d = or_passed (refuse 9 (not (eqb (length c.heights % 3) 0))) _ b.1 in
      let e = or_passed (refuse 9 (not (eqb (length c.cells) (cell_count logs)))) _ d.1 in
      let f = or_passed (refuse 9 (not (eqb (length c.lent) (stack_width l n (count_of logs) logs * height l n)))) _ e.1 in
      not-false _ (is_false 10 _ (omega arith) f.1)

  filled : stacked_into l n c.heights c.cells c.lent ≡ stacked_matrix l n logs c.cells
  unfolding stacked_into filled_by
  filled = ap (λ b. cond b (stacked_matrix l n logs c.cells) c.lent) (eq-eqb _ 0 accepted)

  alone : Stacks l n (count_of logs) (count_of logs) logs (stacked_matrix l n logs c.cells) c.cells
  unfolding laid_number
  alone =
      let fill = cells_fillable l n logs (length c.heights % 3) c.cells (length c.lent) (trace_shaped l n c.heights trace).0 rest in
      let walks = or_passed (walk_number l n (count_of logs) logs) _ laid in
      record {
        size = omega (arith, logged-length c.heights, logged-count c.heights);
        begun = omega arith;
        flags = flag_low;
        widths = columns_low;
        placed = first_all (count_of logs) (place_number l n (count_of logs) logs) walks.0;
        rises = λ b h. first_all (min (count_of logs) (count_of logs)) (rise_number logs) walks.1 b (omega arith);
        some = some-column;
        full = λ i f h. absurd (omega arith);
        ends = stacked-ends l n logs c.cells (length c.lent) fill;
        cells_size = fill.cells_size;
        below = stacked-below l n logs c.cells cells-below;
        cell = stacked-cell l n logs c.cells (length c.lent) fill;
      }

  pub stacked_alone : Stacks l n (count_of c.heights) (count_of c.heights) logs (stacked_into l n c.heights c.cells c.lent) c.cells
  stacked_alone = subst (λ T. T) (λ i. Stacks l n (logged-count c.heights i) (logged-count c.heights i) logs (sym filled i) c.cells) alone
