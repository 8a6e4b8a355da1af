-- `stacked_matrix`: its answer, and what it leaves in the slice it was lent.
use Rattle.std.specs.Prelude.{ℕ, ◌*◌, ◌%◌, cond, not, Result, List, length, eqb}
use Rattle.field.specs.Slice.{canonical_words}
use Rattle.field.specs.declared.answer.Refusal.{Refusal}
use Rattle.layout.specs.declared.stacked_pcs.StackedLayout.{StackedLayout}
use Rattle.layout.specs.Checks.{refuse, or_else}
use Rattle.layout.specs.Triples.{count_of, column_count}
use Rattle.layout.specs.Placing.{height, stack_width}
use Rattle.layout.specs.Refusals.{shape_number, laid_number}
use Rattle.layout.specs.Planning.{laid_out}
use Rattle.layout.specs.Logs.{logged, heights_number}
use Rattle.layout.specs.Stacked.{cell_count, stacked_matrix}

-- 4 to 10, on the list with log heights; `over` words stand past its last triple
unfoldable pub cells_number : ℕ → ℕ → List ℕ → ℕ → List ℕ → ℕ → ℕ
cells_number l n list over cells places =
    or_else (laid_number l n (count_of list) list)
    (or_else (refuse 7 (eqb (column_count list) 0))
    (or_else (refuse 9 (not (eqb over 0)))
    (or_else (refuse 9 (not (eqb (length cells) (cell_count list))))
    (or_else (refuse 9 (not (eqb places (stack_width l n (count_of list) list * height l n))))
    (refuse 10 (not (canonical_words cells)))))))

-- 1, 2 and 3
unfoldable pub trace_number : ℕ → ℕ → List ℕ → ℕ
trace_number l n list = or_else (shape_number l n list) (heights_number list)

-- 1 to 7, 9 and 10
unfoldable pub stacking_number : ℕ → ℕ → List ℕ → List ℕ → ℕ → ℕ
stacking_number l n list cells places =
    or_else (trace_number l n list) (cells_number l n (logged list) (length list % 3) cells places)

-- stack width, H and the number of columns
unfoldable pub stacked_of : ℕ → ℕ → List ℕ → List ℕ → ℕ → Result StackedLayout Refusal
stacked_of l n list cells places = laid_out l n (logged list) (stacking_number l n list cells places)

-- the stacked matrix of a list with log heights; as it was where a number refuses
unfoldable pub filled_by : ℕ → ℕ → List ℕ → List ℕ → ℕ → List ℕ → List ℕ
filled_by l n list cells number out = cond (eqb number 0) (stacked_matrix l n list cells) out

unfoldable pub stacked_into : ℕ → ℕ → List ℕ → List ℕ → List ℕ → List ℕ
stacked_into l n list cells out = filled_by l n (logged list) cells (stacking_number l n list cells (length out)) out
