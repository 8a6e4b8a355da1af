use mathlib.Core.Path.{refl, ap}
use native.Mathlib.Omega.{arith}
use Rattle.field.specs.Number.{settled, refusal_of, refusals}
use Rattle.layout.specs.Answers.{answer_of}
use Rattle.layout.specs.Checks.{first_of}
use Rattle.layout.proofs.Firsts.{first_end}
use Rattle.layout.proofs.RunLaws.{empty_turn, empty_found}
use Rattle.layout.proofs.runs.later_empty.Goals as goal

pub loop-c-init : goal.loop-c-init
unfolding first_of
loop-c-init c = (omega arith, refl)

pub returns-then-width_there-eq0 : goal.returns-then-width_there-eq0
unfolding answer_of settled refusal_of refusals
returns-then-width_there-eq0 c = ap answer_of (empty_found _ _ _ _ c.width_there.ensures _ c.loop-c-test.true c.loop-c.invariant.1 c.if-width_there-eq0.true)

pub loop-c-preserved : goal.loop-c-preserved
loop-c-preserved c = (omega arith, empty_turn _ _ _ _ c.width_there.ensures c.loop-c.invariant.1 c.if-width_there-eq0.false)

pub returns : goal.returns
unfolding answer_of settled
returns c = ap answer_of (first_end _ _ _ c.loop-c.invariant.0 c.loop-c-test.false c.loop-c.invariant.1)
