-- Where columns go. Slices follow each other without a gap, so a place is one number: the cell counted through the stack
-- columns one after the other. Document 01: at a row exactly H the next stack column opens.
-- A list's first `first` matrices are the first commitment; each matrix after them is a commitment of its own.
use Rattle.std.specs.Prelude.{ℕ, zero, suc, ◌+◌, ◌-◌, ◌*◌, ◌/◌, ◌%◌, ◌^◌, max, cond, List, leb}
use Rattle.layout.specs.Triples.{count_of, width_at, log_at}

-- H = 2^(l_skip+n_stack), the rows of a stack column
abbrev pub height : ℕ → ℕ → ℕ
height l n = 2 ^ (l + n)

-- a column of log height h takes max(2^h, 2^l_skip) rows
unfoldable pub slice_length : ℕ → ℕ → ℕ
slice_length l h = max (2 ^ h) (2 ^ l)

-- the first multiple of h from s on
unfoldable pub round_up : ℕ → ℕ → ℕ
round_up h s = (s + (h - 1)) / h * h

-- where matrix i starts after cells up to s: a commitment after the first opens a stack column
unfoldable pub opened : ℕ → ℕ → ℕ → ℕ → ℕ → ℕ
opened l n first i s = cond (leb first i) (round_up (height l n) s) s

-- the cells that matrix i takes
unfoldable pub matrix_length : ℕ → List ℕ → ℕ → ℕ
matrix_length l list i = width_at list i * slice_length l (log_at list i)

-- the first cell of matrix i
unfoldable pub matrix_start : ℕ → ℕ → ℕ → List ℕ → ℕ → ℕ
matrix_start l n first list zero = 0
matrix_start l n first list (suc i) = opened l n first (suc i) (matrix_start l n first list i + matrix_length l list i)

-- the first cell of column j of matrix i
abbrev pub column_start : ℕ → ℕ → ℕ → List ℕ → ℕ → ℕ → ℕ
column_start l n first list i j = matrix_start l n first list i + j * slice_length l (log_at list i)

-- the stack column of a cell, and its row
abbrev pub stack_column : ℕ → ℕ → ℕ → ℕ
stack_column l n s = s / height l n

abbrev pub row_of : ℕ → ℕ → ℕ → ℕ
row_of l n s = s % height l n

-- the opened stack columns
abbrev pub stack_width : ℕ → ℕ → ℕ → List ℕ → ℕ
stack_width l n first list = matrix_start l n first list (count_of list) / height l n
