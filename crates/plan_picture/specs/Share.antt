-- The share of used cells: the cells that the slices take, of all cells of the opened stack columns.
use Rattle.std.specs.Prelude.{ℕ, zero, suc, ◌+◌, ◌*◌, ◌/◌, List, get_or}
use Rattle.plan_picture.specs.Fields.{rows_of}

-- the cells that the slices of the first k records take, two words each
unfoldable pub used_cells : ℕ → List ℕ → ℕ → ℕ
used_cells l records zero = 0
used_cells l records (suc k) = used_cells l records k + rows_of l (get_or records (2 * k + 1) 0)

-- in 100, rounded down; 0 where there are no cells
unfoldable pub used_share : ℕ → ℕ → ℕ
used_share used cells = used * 100 / cells
