-- A column's slice: its stack column, its starting row there, and its log height.
use Rattle.std.specs.Prelude.{ℕ, ◌+◌, ◌*◌, ◌<◌, ◌≤◌}
use Rattle.layout.specs.declared.columns.Column.{Column}
use Rattle.layout.specs.declared.stacked_pcs.StackedSlice.{StackedSlice}
use Rattle.layout.specs.Placing.{height, stack_column, row_of}

-- the slice at cell s
unfoldable pub slice_at : ℕ → ℕ → ℕ → ℕ → StackedSlice
slice_at l n s h = record { col_idx = stack_column l n s; row_idx = row_of l n s; log_height = h }

-- a column whose record fits its bits
pub record Packable (l n : ℕ) (c : Column) : Type 0 where
  pub sum : l + n ≤ 24
  pub matrix : c.matrix < 4096
  pub column : c.column < 4096
  pub stack : c.start < 4096 * height l n
  pub log : c.log ≤ 24
