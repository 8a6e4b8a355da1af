use Rattle.std.proofs.Common.{◌-◌, ◌≤◌}
use Rattle.prover.proofs.SlotTurns.{Starting}
use Rattle.prover.proofs.plans.slots_of.Given as goal

abbrev pub invariant-loop-h : goal.invariant-loop-h
invariant-loop-h l = (l.h ≤ l.top) × Starting l.l_skip l.lists l.h l.slots

abbrev pub decreases-loop-h : goal.decreases-loop-h
decreases-loop-h l = l.top - l.h
