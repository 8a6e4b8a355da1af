-- The slice record as it was before C-14, one u64. Document 01, most significant first: matrix 8 bits, column 12, stack column 12,
-- starting row 24, log height 5, three zero bits. No contract speaks of it: it is what proofs/RecordFields compares with.
use Rattle.std.specs.Prelude.{ℕ, ◌+◌, ◌*◌, ◌^◌}
use Rattle.layout.specs.declared.columns.Column.{Column}
use Rattle.layout.specs.Placing.{stack_column, row_of}

unfoldable pub packed_before : ℕ → ℕ → Column → ℕ
packed_before l n c =
    c.matrix * 2 ^ 56 + c.column * 2 ^ 44 + stack_column l n c.start * 2 ^ 32 + row_of l n c.start * 2 ^ 8
    + c.log * 2 ^ 3
