use native.Mathlib.Omega.{arith}
use Rattle.layout.proofs.Filling.{fill_start, fill_turn}
use Rattle.ordering.proofs.Gathers.{gather_below, gather_word, gather_room}
use Rattle.ordering.proofs.unsorted.gather.Goals as goal

pub loop-k-init : goal.loop-k-init
loop-k-init c = (omega arith, fill_start _ _)

pub bounds-order-k : goal.bounds-order-k
bounds-order-k c = omega (arith, gather_room _ _ c.requires.0)

pub bounds-list-i : goal.bounds-list-i
bounds-list-i c = omega (arith, gather_below _ _ c.requires.0 _ c.loop-k-test.true)

pub loop-k-preserved : goal.loop-k-preserved
loop-k-preserved c = (omega arith, fill_turn _ _ _ _ _ (omega (arith, c.requires.1)) (gather_word _ _ c.requires.0 _ c.loop-k-test.true) c.loop-k.invariant.1)
