-- Planning one commitment: the answer of `StackedLayout::new` and the records that it leaves in the slice it was lent.
use Rattle.std.specs.Prelude.{ℕ, ◌*◌, cond, not, Result, List, length, eqb}
use Rattle.field.specs.declared.answer.Refusal.{Refusal}
use Rattle.field.specs.Number.{settled}
use Rattle.layout.specs.declared.stacked_pcs.StackedLayout.{StackedLayout}
use Rattle.layout.specs.Checks.{refuse, or_else}
use Rattle.layout.specs.Triples.{count_of, column_count}
use Rattle.layout.specs.Placing.{height, stack_width}
use Rattle.layout.specs.Refusals.{plan_number, triple_number}
use Rattle.layout.specs.Packed.{records}

-- 1, 2, 4, 5, 6 and 9: the slice has two words a column
unfoldable pub planning_number : ℕ → ℕ → List ℕ → ℕ → ℕ
planning_number l n list places =
    or_else (plan_number l n list) (or_else (triple_number list) (refuse 9 (not (eqb places (2 * column_count list)))))

-- stack width, H and the number of columns
unfoldable pub done_layout : ℕ → ℕ → List ℕ → StackedLayout
done_layout l n list = record { width = stack_width l n (count_of list) list; height = height l n; columns = column_count list }

-- by the number, and that of the planning call with so many places for records
unfoldable pub laid_out : ℕ → ℕ → List ℕ → ℕ → Result StackedLayout Refusal
laid_out l n list number = settled number (done_layout l n list)

unfoldable pub planned_of : ℕ → ℕ → List ℕ → ℕ → Result StackedLayout Refusal
planned_of l n list places = laid_out l n list (planning_number l n list places)

-- the records; as it was where refused
unfoldable pub planned_into : ℕ → ℕ → List ℕ → List ℕ → List ℕ
planned_into l n list out = cond (eqb (planning_number l n list (length out)) 0) (records l n list) out
