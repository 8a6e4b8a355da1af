-- Document 01's numbers for a list of matrices. Each is 0 where the list passes.
use Rattle.std.specs.Prelude.{ℕ, suc, ◌+◌, ◌*◌, ◌%◌, min, cond, not, ◌&&◌, List, length, ltb, eqb}
use Rattle.layout.specs.Checks.{refuse, or_else, first_of}
use Rattle.layout.specs.Triples.{count_of, width_at, log_at, flag_at, columns_before}
use Rattle.layout.specs.Placing.{height, slice_length, matrix_start, row_of}

-- 1: l_skip 0..10, n_stack 0..20, l_skip + n_stack ≤ 24
unfoldable pub limits_number : ℕ → ℕ → ℕ
limits_number l n = or_else (refuse 1 (ltb 10 l)) (or_else (refuse 1 (ltb 20 n)) (refuse 1 (ltb 24 (l + n))))

-- 1: a flag over 1
unfoldable pub flag_number : List ℕ → ℕ → ℕ
flag_number list i = refuse 1 (ltb 1 (flag_at list i))

abbrev pub flags_number : List ℕ → ℕ
flags_number list = first_of (count_of list) (flag_number list)

-- the columns of matrix i's commitment up to and with that matrix: the first `first` matrices are one, each later is its own
unfoldable pub columns_in : ℕ → List ℕ → ℕ → ℕ
columns_in first list i = cond (ltb i first) (columns_before list (suc i)) (width_at list i)

-- 2: over 4,096 columns in a commitment
unfoldable pub width_number : ℕ → List ℕ → ℕ → ℕ
width_number first list i = refuse 2 (ltb 4096 (columns_in first list i))

abbrev pub columns_number : ℕ → List ℕ → ℕ
columns_number first list = first_of (count_of list) (width_number first list)

-- a column of log height h at cell s. 4: it is higher than H. 5: it does not fit below that cell's row
unfoldable pub column_number : ℕ → ℕ → ℕ → ℕ → ℕ
column_number l n h s =
    or_else (refuse 4 (ltb (l + n) h)) (refuse 5 (ltb (height l n) (row_of l n s + slice_length l h)))

-- w such columns, one below the other
unfoldable pub matrix_number : ℕ → ℕ → ℕ → ℕ → ℕ → ℕ
matrix_number l n w h s = first_of w (λ j. column_number l n h (s + j * slice_length l h))

-- 4 and 5 as the walk meets them, column by column
unfoldable pub place_number : ℕ → ℕ → ℕ → List ℕ → ℕ → ℕ
place_number l n first list i = matrix_number l n (width_at list i) (log_at list i) (matrix_start l n first list i)

abbrev pub walk_number : ℕ → ℕ → ℕ → List ℕ → ℕ
walk_number l n first list = first_of (count_of list) (place_number l n first list)

-- 6: matrix b has columns that are higher than those of matrix a before it
unfoldable pub higher_number : List ℕ → ℕ → ℕ → ℕ
higher_number list b a = refuse 6 (ltb 0 (width_at list a) && (ltb 0 (width_at list b) && ltb (log_at list a) (log_at list b)))

unfoldable pub rise_number : List ℕ → ℕ → ℕ
rise_number list b = first_of b (higher_number list b)

-- a commitment after the first has one matrix only
abbrev pub rises_number : ℕ → List ℕ → ℕ
rises_number first list = first_of (min first (count_of list)) (rise_number list)

-- 4, 5 and 6
unfoldable pub laid_number : ℕ → ℕ → ℕ → List ℕ → ℕ
laid_number l n first list = or_else (walk_number l n first list) (rises_number first list)

-- 1 and 2 of one commitment
unfoldable pub shape_number : ℕ → ℕ → List ℕ → ℕ
shape_number l n list =
    or_else (limits_number l n)
    (or_else (refuse 1 (ltb 4096 (count_of list))) (or_else (flags_number list) (columns_number (count_of list) list)))

-- 1, 2, 4, 5 and 6 of one commitment
unfoldable pub plan_number : ℕ → ℕ → List ℕ → ℕ
plan_number l n list = or_else (shape_number l n list) (laid_number l n (count_of list) list)

-- 1, 2, 4, 5 and 6 of the matrices of all commitments, the first `first` of which are the first commitment
unfoldable pub matrices_number : ℕ → ℕ → ℕ → List ℕ → ℕ
matrices_number l n first list =
    or_else (limits_number l n)
    (or_else (refuse 1 (ltb 4111 (count_of list)))
    (or_else (flags_number list) (or_else (columns_number first list) (laid_number l n first list))))

-- 9: words after the last whole triple
unfoldable pub triple_number : List ℕ → ℕ
triple_number list = refuse 9 (not (eqb (length list % 3) 0))
