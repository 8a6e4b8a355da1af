-- The weights of column k, a value for each row of its stack column. Document 01: where its cell t lies, lambda^(2k) × e(t), plus
-- lambda^(2k+1) × e(t − 1) if flagged, the last row standing before row 0; elsewhere 0.
use Rattle.std.specs.Prelude.{ℕ, ◌^◌}
use Rattle.algebra.specs.Ring.{Ring}
use Rattle.tables.specs.Index.{before}
use Rattle.tables.specs.AtStride.{at_stride}
use Rattle.tables.specs.Window.{window}
use Rattle.layout.specs.Placing.{slice_length}
use Rattle.weights.specs.Run.{Run, start_row, gap}
use Rattle.weights.specs.ColumnFactor.{column_factor}
use Rattle.weights.specs.LambdaPowers.{plain_power, rotated_power}

module _ {A : Type 0} (R : Ring A) (half w : A) (run : Run A) where
  -- the weight of cell t
  unfoldable pub cell_weight : ℕ → ℕ → A
  cell_weight k t =
      R.add (R.mul (plain_power R run k) (column_factor R half w run (run.log k) t))
      (R.mul (rotated_power R run k) (column_factor R half w run (run.log k) (before (2 ^ run.log k) t)))

  -- cell t lies at row s + t · 2^(l_skip − h) for a short column, s + t for others
  unfoldable pub weights : ℕ → ℕ → A
  weights k = window R (start_row run k) (slice_length run.skip (run.log k)) (at_stride R (2 ^ gap run (run.log k)) (cell_weight k))
