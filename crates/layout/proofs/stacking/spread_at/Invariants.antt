-- `stacking::spread_at` meets its contract: t cells are put down. Assumes nothing.
use Prim.Native.Nat.{◌-◌}
use Rattle.layout.proofs.Spreads.{Spreading}
use Rattle.layout.proofs.stacking.spread_at.Given as goal

abbrev pub invariant-loop-t : goal.invariant-loop-t
invariant-loop-t l = Spreading l.initial.out l.at l.cells l.from l.count l.stride l.t l.out

abbrev pub decreases-loop-t : goal.decreases-loop-t
decreases-loop-t l = l.count - l.t
