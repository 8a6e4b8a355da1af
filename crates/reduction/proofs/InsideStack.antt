-- Lists that are not refused: every column lies in one of the stack columns, and its log height is among those that occur.
use mathlib.Core.Path.{◌≡◌, sym, subst}
use mathlib.Core.List.{List}
use Prim.Native.Nat.{ℕ, suc, ◌+◌, ◌*◌, ◌<◌, ◌≤◌}
use native.Mathlib.Nat.{div-lt_iff_lt-mul, div-add-mod', add-mul, mul-le-mul_right}
use native.Mathlib.Omega.{arith}
use lib.Pow.{pow_pos}
use Rattle.layout.specs.declared.columns.Column.{Column}
use Rattle.layout.specs.Triples.{count_of, width_at, log_at}
use Rattle.layout.specs.Placing.{height, slice_length, matrix_length, matrix_start, column_start, stack_column, stack_width}
use Rattle.layout.specs.Lists.{first_count}
use Rattle.layout.proofs.Slices.{slice-pos}
use Rattle.layout.proofs.Parts.{matrix_ends, starts_mono, start_multiple}
use Rattle.layout.proofs.Bounds.{column-found}
use Rattle.layout.proofs.RunLaws.{Listed}
use Rattle.weights.proofs.PlannedRuns.{planned-run}
use Rattle.prover.specs.Given.{Given}
use Rattle.prover.proofs.SlotLaws.{column-occurs}
use Rattle.reduction.proofs.Stands.{Laid}

module _ (l n first : ℕ) (list : List ℕ) (few : first ≤ count_of list) where
  -- the stack columns end where the last commitment does
  end_whole : matrix_start l n first list (count_of list) ≡ stack_width l n first list * height l n
  end_whole = omega (arith, start_multiple l n first list (count_of list) few, div-add-mod' (matrix_start l n first list (count_of list)) (height l n))

  column-ends : (i j : ℕ) → j < width_at list i → column_start l n first list i j + slice_length l (log_at list i) ≤ matrix_start l n first list (suc i)
  unfolding matrix_length
  column-ends i j h =
      omega (
        arith,
        add-mul j 1 (slice_length l (log_at list i)),
        mul-le-mul_right {m = j + 1} {n = width_at list i} (slice_length l (log_at list i)) (omega arith),
        matrix_ends l n first list i,
      )

  column-inside : (i j : ℕ) → i < count_of list → j < width_at list i → stack_column l n (column_start l n first list i j) < stack_width l n first list
  column-inside i j h k =
      (div-lt_iff_lt-mul {k = height l n} {x = column_start l n first list i j} {y = stack_width l n first list} (pow_pos (l + n))).1
      (omega (arith, end_whole, column-ends i j k, slice-pos l (log_at list i), starts_mono l n first list (suc i) (count_of list) h))

module _ (g : Given) (listed : Listed g.skip g.stack g.counts g.lists) where
  abbrev first : ℕ
  first = first_count g.counts

  pub laid_run : Laid g
  laid_run =
      record {
        planned = planned-run g.skip g.stack g.counts g.lists g.r g.lambda listed;
        inside = λ k h.
            let f = column-found g.skip g.stack first g.lists k h in
            subst (λ (c : Column). stack_column g.skip g.stack c.start < stack_width g.skip g.stack first g.lists) (sym f.is)
            (column-inside g.skip g.stack first g.lists (omega (arith, listed.size)) f.matrix f.column f.there f.within);
        there = column-occurs g.lists g.skip g.stack first;
      }
