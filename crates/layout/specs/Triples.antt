-- A list of matrices, each three words: width, log height, rotation flag. Words past the last whole triple are no matrix.
use Rattle.std.specs.Prelude.{ℕ, zero, suc, ◌+◌, ◌*◌, ◌/◌, List, length, get_or}

abbrev pub count_of : List ℕ → ℕ
count_of list = length list / 3

abbrev pub width_at : List ℕ → ℕ → ℕ
width_at list i = get_or list (3 * i) 0

abbrev pub log_at : List ℕ → ℕ → ℕ
log_at list i = get_or list (3 * i + 1) 0

abbrev pub flag_at : List ℕ → ℕ → ℕ
flag_at list i = get_or list (3 * i + 2) 0

-- the columns of the first i matrices
unfoldable pub columns_before : List ℕ → ℕ → ℕ
columns_before list zero = 0
columns_before list (suc i) = columns_before list i + width_at list i

-- the columns of the whole list
abbrev pub column_count : List ℕ → ℕ
column_count list = columns_before list (count_of list)
