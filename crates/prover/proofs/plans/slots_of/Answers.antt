use Rattle.std.proofs.Common.{refl, arith}
use Rattle.prover.proofs.SlotTurns.{starting_zero, starting_turn, starting_fits, starting_end}
use Rattle.prover.proofs.plans.slots_of.Goals as goal

pub loop-h-init : goal.loop-h-init
loop-h-init c = (omega arith, starting_zero _ _ _ refl refl)

pub overflow_add-slots : goal.overflow_add-slots
overflow_add-slots c =
    omega (
      arith,
      starting_fits _ _ _ _ _ _ c.loop-h.invariant.1 c.requires.0 c.loop-h-test.true c.requires.1 c.entries_of-e.ensures,
    )

pub loop-h-preserved : goal.loop-h-preserved
loop-h-preserved c = (omega arith, starting_turn _ _ _ _ _ c.loop-h.invariant.1 (omega arith) c.entries_of-e.ensures refl)

pub returns : goal.returns
returns c = starting_end _ _ _ _ _ c.loop-h-test.false c.loop-h.invariant.1
