-- `mat_view`: a matrix's cells as one part of the stacked matrix.
use Rattle.std.specs.Prelude.{ℕ, ◌*◌, cond, not, Result, List, [], length, take, drop, leb, eqb}
use Rattle.field.specs.Slice.{canonical_words}
use Rattle.field.specs.declared.answer.Refusal.{Refusal}
use Rattle.field.specs.Number.{settled}
use Rattle.layout.specs.declared.stacked_pcs.MatPlace.{MatPlace}
use Rattle.layout.specs.Checks.{refuse, or_else}
use Rattle.layout.specs.Triples.{count_of, width_at}
use Rattle.layout.specs.Placing.{height, matrix_length, matrix_start, stack_width}
use Rattle.layout.specs.Refusals.{plan_number, triple_number}

-- 1, 2, 4, 5, 6, 9, 10 and 11: no such matrix, or one of width 0
unfoldable pub view_number : ℕ → ℕ → List ℕ → List ℕ → ℕ → ℕ
view_number l n list stacked i =
    or_else (plan_number l n list)
    (or_else (triple_number list)
    (or_else (refuse 9 (not (eqb (length stacked) (stack_width l n (count_of list) list * height l n))))
    (or_else (refuse 10 (not (canonical_words stacked)))
    (or_else (refuse 11 (leb (count_of list) i)) (refuse 11 (eqb (width_at list i) 0))))))

-- where the part starts and how long it is
unfoldable pub mat_place_of : ℕ → ℕ → List ℕ → List ℕ → ℕ → Result MatPlace Refusal
mat_place_of l n list stacked i =
    settled (view_number l n list stacked i)
    (record { start = matrix_start l n (count_of list) list i; len = matrix_length l list i })

-- the part; empty where refused
unfoldable pub view_of : ℕ → ℕ → List ℕ → List ℕ → ℕ → List ℕ
view_of l n list stacked i =
    cond (eqb (view_number l n list stacked i) 0)
    (take (matrix_length l list i) (drop (matrix_start l n (count_of list) list i) stacked)) []
