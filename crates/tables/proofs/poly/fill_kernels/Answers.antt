use Rattle.tables.proofs.KernelTableLoop.{widened_start, widened_room, widened_turn, widened_end}
use Rattle.tables.proofs.poly.fill_kernels.Goals as goal

pub loop-s-init : goal.loop-s-init
loop-s-init c = widened_start _ _ _ c.requires.out_len c.from_word-one.ensures c.store.ensures

pub widen-requires-clause-half_in_bounds : goal.widen-requires-clause-half_in_bounds
widen-requires-clause-half_in_bounds c = widened_room _ _ _ _ _ c.requires.l_bound c.loop-s.invariant c.loop-s-test.true

pub loop-s-preserved : goal.loop-s-preserved
loop-s-preserved c = widened_turn _ _ _ _ _ c.requires.l_bound c.loop-s.invariant c.loop-s-test.true _ c.exp_power_of_2-power.ensures c.widen.ensures

pub returns : goal.returns
returns c = widened_end _ _ _ _ _ c.requires.l_bound c.loop-s-test.false c.loop-s.invariant
