-- The rows of a slice, by the two words x and y of its record.
use Rattle.std.specs.Prelude.{ℕ, ◌+◌, ◌-◌, ◌^◌}
use Rattle.layout.specs.Placing.{slice_length}
use Rattle.layout.specs.Packed.{row_field, log_field}

-- the rows that the slice takes
abbrev pub rows_of : ℕ → ℕ → ℕ
rows_of l y = slice_length l (log_field y)

abbrev pub last_row : ℕ → ℕ → ℕ → ℕ
last_row l x y = row_field x + rows_of l y - 1

-- the trace column's own height
abbrev pub trace_height : ℕ → ℕ
trace_height y = 2 ^ log_field y
