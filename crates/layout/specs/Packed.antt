-- The slice record as two u64, side by side. Document 02, C-14, most significant first: matrix 16 bits, column 12, stack column 12,
-- starting row 24; then log height in the top five bits, zeros below.
use Rattle.std.specs.Prelude.{ℕ, ◌+◌, ◌*◌, ◌/◌, ◌%◌, ◌^◌, cond, List, eqb}
use Rattle.algebra.specs.Listed.{listed}
use Rattle.layout.specs.declared.columns.Column.{Column}
use Rattle.layout.specs.Triples.{count_of, column_count}
use Rattle.layout.specs.Placing.{stack_column, row_of}
use Rattle.layout.specs.Columns.{column_at}

unfoldable pub packed : ℕ → ℕ → Column → ℕ
packed l n c = c.matrix * 2 ^ 48 + c.column * 2 ^ 36 + stack_column l n c.start * 2 ^ 24 + row_of l n c.start

unfoldable pub packed_log : Column → ℕ
packed_log c = c.log * 2 ^ 59

-- word k of all records of one commitment: those of column j are words 2·j and 2·j + 1
unfoldable pub record_word : ℕ → ℕ → List ℕ → ℕ → ℕ
record_word l n list k =
    cond (eqb (k % 2) 0) (packed l n (column_at l n (count_of list) list (k / 2))) (packed_log (column_at l n (count_of list) list (k / 2)))

abbrev pub records : ℕ → ℕ → List ℕ → List ℕ
records l n list = listed (2 * column_count list) (record_word l n list)

-- the fields of the first word x
abbrev pub matrix_field : ℕ → ℕ
matrix_field x = x / 2 ^ 48

abbrev pub column_field : ℕ → ℕ
column_field x = x / 2 ^ 36 % 2 ^ 12

abbrev pub stack_field : ℕ → ℕ
stack_field x = x / 2 ^ 24 % 2 ^ 12

abbrev pub row_field : ℕ → ℕ
row_field x = x % 2 ^ 24

-- the field of the second word y
abbrev pub log_field : ℕ → ℕ
log_field y = y / 2 ^ 59 % 2 ^ 5
