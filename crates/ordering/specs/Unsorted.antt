-- Planning in whatever order: the answer of `plan_unsorted`, and what it leaves in the two slices that it was lent.
use Rattle.std.specs.Prelude.{ℕ, ◌%◌, cond, not, Result, List, length, eqb}
use Rattle.field.specs.declared.answer.Refusal.{Refusal}
use Rattle.layout.specs.declared.stacked_pcs.StackedLayout.{StackedLayout}
use Rattle.layout.specs.Checks.{refuse, or_else, length_number}
use Rattle.layout.specs.Triples.{count_of}
use Rattle.layout.specs.Planning.{planning_number, laid_out}
use Rattle.layout.specs.Packed.{records}
use Rattle.ordering.specs.Ordered.{positions, ordered}

-- of a list in order: the number of its planning; then 9: `over` words stand past its last triple, and the slice for the
-- positions has not one place a matrix
unfoldable pub in_order_number : ℕ → ℕ → List ℕ → ℕ → ℕ → ℕ → ℕ
in_order_number l n list over arrivals places =
    or_else (planning_number l n list places) (or_else (refuse 9 (not (eqb over 0))) (length_number arrivals (count_of list)))

unfoldable pub unsorted_number : ℕ → ℕ → List ℕ → ℕ → ℕ → ℕ
unsorted_number l n list arrivals places = in_order_number l n (ordered list) (length list % 3) arrivals places

-- stack width, H and the number of columns of the ordered list
unfoldable pub unsorted_of : ℕ → ℕ → List ℕ → ℕ → ℕ → Result StackedLayout Refusal
unsorted_of l n list arrivals places = laid_out l n (ordered list) (unsorted_number l n list arrivals places)

-- what is written, and the slice as it was where a number refuses
unfoldable pub unless_refused : ℕ → List ℕ → List ℕ → List ℕ
unless_refused number written out = cond (eqb number 0) written out

-- the arrival position of each place
unfoldable pub arrivals_into : ℕ → ℕ → List ℕ → List ℕ → ℕ → List ℕ
arrivals_into l n list out places = unless_refused (unsorted_number l n list (length out) places) (positions list) out

-- the records of the ordered list
unfoldable pub unsorted_into : ℕ → ℕ → List ℕ → ℕ → List ℕ → List ℕ
unsorted_into l n list arrivals out = unless_refused (unsorted_number l n list arrivals (length out)) (records l n (ordered list)) out
