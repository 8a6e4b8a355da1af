-- `stacked_pcs::matrix_len` meets its contract. Assumes nothing.
use mathlib.Core.Path.{refl}
use native.Mathlib.Omega.{arith}
use Rattle.layout.specs.Triples.{width_at, log_at}
use Rattle.layout.specs.Placing.{matrix_length}
use Rattle.layout.proofs.Firsts.{times}
use Rattle.layout.proofs.Slices.{cells-small}
use Rattle.layout.proofs.stacked_pcs.matrix_len.Goals as goal

pub slice_len-requires : goal.slice_len-requires
slice_len-requires c = let p = c.requires in (omega (arith, p.0.logs _ p.1 p.2, p.0.shaped.sum), omega (arith, p.0.shaped.skip))

pub overflow_mul-result-2 : goal.overflow_mul-result-2
overflow_mul-result-2 c = let p = c.requires in omega (arith, cells-small c.args.l_skip (log_at c.args.list.now c.args.i) (width_at c.args.list.now c.args.i) (omega (arith, p.0.shaped.skip)) (omega (arith, p.0.logs _ p.1 p.2, p.0.shaped.sum)) (p.0.shaped.widths _ p.1), times (width_at c.args.list.now c.args.i) _ _ _ refl c.slice_len.ensures)

pub returns : goal.returns
unfolding matrix_length
returns c = cc
