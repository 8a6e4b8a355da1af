use Rattle.std.proofs.Common.{ap, ◌∙◌, le_antisymm, arith}
use Rattle.prover.specs.Slots.{occurs_in}
use Rattle.prover.proofs.SlotTurns.{occurs_start, occurs-here, occurs_other, occurs_empty}
use Rattle.prover.proofs.plans.height_occurs.Goals.{then-lists-i-ne0+then-lists-i, then-lists-i-ne0+else-lists-i, else-lists-i-ne0}
use Rattle.prover.proofs.plans.height_occurs.Goals as goal

pub loop-i-init : goal.loop-i-init
loop-i-init c = (omega arith, occurs_start _ _)

pub loop-i-preserved : goal.loop-i-preserved
loop-i-preserved c =
    let v = c.loop-i.invariant.1 in (
      omega arith,
      elim c.if-lists-i-ne0.branch [
        | then-lists-i-ne0+then-lists-i w ↦ occurs-here _ _ _ v w.if-lists-i-ne0.true w.if-lists-i.true w.found-is
        | then-lists-i-ne0+else-lists-i w ↦ occurs_other _ _ _ v w.if-lists-i-ne0.true w.if-lists-i.false w.found-is
        | else-lists-i-ne0 w ↦ occurs_empty _ _ _ v w.if-lists-i-ne0.false w.found-is
      ],
    )

pub returns : goal.returns
returns c = c.loop-i.invariant.1 ∙ ap (λ i. occurs_in c.args.lists.now i c.args.h) (le_antisymm c.loop-i.invariant.0 c.loop-i-test.false)
