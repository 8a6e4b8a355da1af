-- `get`: the slice of column j of matrix i.
use Rattle.std.specs.Prelude.{ℕ, Result, List, leb}
use Rattle.field.specs.declared.answer.Refusal.{Refusal}
use Rattle.field.specs.Number.{settled}
use Rattle.layout.specs.declared.stacked_pcs.StackedSlice.{StackedSlice}
use Rattle.layout.specs.Checks.{refuse, or_else}
use Rattle.layout.specs.Triples.{count_of, width_at, log_at}
use Rattle.layout.specs.Placing.{column_start}
use Rattle.layout.specs.Refusals.{plan_number, triple_number}
use Rattle.layout.specs.Slice.{slice_at}

-- 1, 2, 4, 5, 6, 9 and 11: no such matrix or column
unfoldable pub get_number : ℕ → ℕ → List ℕ → ℕ → ℕ → ℕ
get_number l n list i j =
    or_else (plan_number l n list)
    (or_else (triple_number list) (or_else (refuse 11 (leb (count_of list) i)) (refuse 11 (leb (width_at list i) j))))

unfoldable pub got_of : ℕ → ℕ → List ℕ → ℕ → ℕ → Result StackedSlice Refusal
got_of l n list i j =
    settled (get_number l n list i j) (slice_at l n (column_start l n (count_of list) list i j) (log_at list i))
