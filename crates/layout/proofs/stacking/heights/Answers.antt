use mathlib.Core.Path.{refl, ap}
use native.Mathlib.Omega.{arith}
use Rattle.field.specs.Number.{settled, refusal_of, refusals}
use Rattle.layout.specs.Answers.{answer_of}
use Rattle.layout.specs.Checks.{first_of}
use Rattle.layout.proofs.Firsts.{first_end}
use Rattle.layout.proofs.Cells.{height_turn, height-found}
use Rattle.layout.proofs.stacking.heights.Goals as goal

pub loop-i-init : goal.loop-i-init
unfolding first_of
loop-i-init c = (omega arith, refl)

pub returns-then-list-i-ne1 : goal.returns-then-list-i-ne1
unfolding answer_of settled refusal_of refusals
returns-then-list-i-ne1 c = ap answer_of (height-found _ _ c.loop-i-test.true c.loop-i.invariant.1 c.if-list-i-ne1.true)

pub loop-i-preserved : goal.loop-i-preserved
loop-i-preserved c = (omega arith, height_turn _ _ c.loop-i.invariant.1 c.if-list-i-ne1.false)

pub returns : goal.returns
unfolding answer_of settled
returns c = ap answer_of (first_end _ _ _ c.loop-i.invariant.0 c.loop-i-test.false c.loop-i.invariant.1)
