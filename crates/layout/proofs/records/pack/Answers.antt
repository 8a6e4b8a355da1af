-- `records::pack` meets its contract: the fields do not meet. Assumes nothing.
use native.Mathlib.Omega.{arith}
use Rattle.layout.proofs.Packing.{pack_col, pack_row, pack_is}
use Rattle.layout.proofs.records.pack.Goals as goal

pub overflow_add-result-2 : goal.overflow_add-result-2
overflow_add-result-2 c = omega (arith, pack_col _ _ _ _ c.requires c.slice_at-s.ensures)

pub overflow_add-result-3 : goal.overflow_add-result-3
overflow_add-result-3 c = omega (arith, pack_col _ _ _ _ c.requires c.slice_at-s.ensures, pack_row _ _ _ _ c.requires c.slice_at-s.ensures)

pub returns : goal.returns
returns c = pack_is _ _ _ _ c.requires c.slice_at-s.ensures
