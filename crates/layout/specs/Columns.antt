-- The columns of a list, one after the other, over all commitments.
use Rattle.std.specs.Prelude.{ℕ, zero, suc, ◌+◌, ◌-◌, ◌^◌, Bool, cond, not, ◌&&◌, ◌||◌, List, ltb, eqb}
use Rattle.layout.specs.declared.columns.Column.{Column}
use Rattle.layout.specs.Triples.{count_of, width_at, log_at, flag_at, columns_before}
use Rattle.layout.specs.Placing.{slice_length, opened, matrix_start, column_start}
use Rattle.layout.specs.Refusals.{limits_number, matrices_number}

-- column j of matrix i, at cell s
abbrev pub column_from : List ℕ → ℕ → ℕ → ℕ → Column
column_from list i j s = record { matrix = i; column = j; start = s; log = log_at list i; flag = flag_at list i }

-- column j of matrix i, where document 01 places it
abbrev pub column_of : ℕ → ℕ → ℕ → List ℕ → ℕ → ℕ → Column
column_of l n first list i j = column_from list i j (column_start l n first list i j)

-- past the last column
abbrev pub column_end : ℕ → ℕ → Column
column_end i s = record { matrix = i; column = 0; start = s; log = 0; flag = 0 }

-- the end mark of a walk that goes no further: past the last matrix, and from there the walk gives it again, by `end_stays` of proofs/ColumnEnds
abbrev pub end_mark : List ℕ → Column
end_mark list = column_end (count_of list) 0

-- column k, counted from matrix i on, of which r are left
unfoldable pub located : ℕ → ℕ → ℕ → List ℕ → ℕ → ℕ → ℕ → Column
located l n first list zero i k = column_end i (matrix_start l n first list i)
located l n first list (suc r) i k =
    cond (ltb k (width_at list i)) (column_of l n first list i k)
    (located l n first list r (suc i) (k - width_at list i))

-- the k-th column of the list: document 01's lambda order
abbrev pub column_at : ℕ → ℕ → ℕ → List ℕ → ℕ → Column
column_at l n first list k = located l n first list (count_of list) 0 k

-- c is at a column of the list, with its log height and its flag
unfoldable pub is_column : List ℕ → Column → Bool
is_column list c =
    ltb c.matrix (count_of list)
    && (ltb c.column (width_at list c.matrix) && (eqb (log_at list c.matrix) c.log && eqb (flag_at list c.matrix) c.flag))

-- and where document 01 places that column: c is one of `column_at`, by `placed_at_lem` and `at_placed` of proofs/Nexts
unfoldable pub is_placed : ℕ → ℕ → ℕ → List ℕ → Column → Bool
is_placed l n first list c = is_column list c && eqb c.start (column_start l n first list c.matrix c.column)

-- the columns before it
abbrev pub index_of : List ℕ → Column → ℕ
index_of list c = columns_before list c.matrix + c.column

-- the first column, and the end mark where the list is refused
unfoldable pub first_column : ℕ → ℕ → ℕ → List ℕ → Column
first_column l n first list = cond (eqb (matrices_number l n first list) 0) (column_at l n first list 0) (end_mark list)

-- the column after c, and the end mark where the list is refused or c is none of its columns
unfoldable pub next_column : ℕ → ℕ → ℕ → List ℕ → Column → Column
next_column l n first list c =
    cond (eqb (matrices_number l n first list) 0 && is_placed l n first list c) (column_at l n first list (index_of list c + 1)) (end_mark list)

-- The walk: one step from any cursor. From the first column on its steps go through `column_at`, by `walk_first_lem` and `walk_next_lem` of
-- proofs/InOrder. It ends where a limit is passed, so that it may be given any words.
unfoldable pub outside : ℕ → ℕ → List ℕ → Bool
outside l n list = not (eqb (limits_number l n) 0) || ltb 4111 (count_of list)

-- w columns of log height h are in no plan: over 4,096, or higher than H
unfoldable pub oversized : ℕ → ℕ → ℕ → ℕ → Bool
oversized l n w h = ltb 4096 w || ltb (l + n) h

-- a cursor that is no column of a plan, as far as that shows without a walk. No column of a list that 1, 2 and 4 let pass strays:
-- `not-strays` of proofs/InOrder
unfoldable pub strays : ℕ → ℕ → List ℕ → Column → Bool
strays l n list c =
    outside l n list
    || (not (is_column list c) || (oversized l n (width_at list c.matrix) c.log || ltb (2 ^ 60) c.start))

-- the first column from matrix i on, of which r are left, where cells up to s are taken, and the end mark at a matrix that is in no plan;
-- from matrix 0 on it is column 0, by `walk_first_lem`
unfoldable pub sought : ℕ → ℕ → ℕ → List ℕ → ℕ → ℕ → ℕ → Column
sought l n first list zero i s = column_end i s
sought l n first list (suc r) i s =
    cond (eqb (width_at list i) 0) (sought l n first list r (suc i) (opened l n first (suc i) s))
    (cond (oversized l n (width_at list i) (log_at list i)) (end_mark list) (column_from list i 0 s))

-- column 0, by `walk_first_lem`
unfoldable pub walk_first : ℕ → ℕ → ℕ → List ℕ → Column
walk_first l n first list = cond (outside l n list) (end_mark list) (sought l n first list (count_of list) 0 0)

-- the column after c, whose slice ends at s
unfoldable pub column_after : ℕ → ℕ → ℕ → List ℕ → Column → ℕ → Column
column_after l n first list c s =
    cond (ltb c.column (width_at list c.matrix - 1)) (column_from list c.matrix (c.column + 1) s)
    (sought l n first list (count_of list - (c.matrix + 1)) (c.matrix + 1) (opened l n first (c.matrix + 1) s))

-- after column k comes column k + 1, by `walk_next_lem`
unfoldable pub walk_next : ℕ → ℕ → ℕ → List ℕ → Column → Column
walk_next l n first list c =
    cond (strays l n list c) (end_mark list)
    (column_after l n first list c (c.start + slice_length l (log_at list c.matrix)))
