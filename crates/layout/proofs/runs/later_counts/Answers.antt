use mathlib.Core.Path.{ap}
use native.Mathlib.Omega.{arith}
use Rattle.field.specs.Number.{settled, refusal_of, refusals}
use Rattle.layout.specs.Answers.{answer_of}
use Rattle.layout.proofs.Firsts.{first_end}
use Rattle.layout.proofs.RunLaws.{later_start, later_turn, later_found}
use Rattle.layout.proofs.runs.later_counts.Goals as goal

pub loop-c-init : goal.loop-c-init
loop-c-init c = (omega arith, omega arith, later_start _)

pub returns-then-counts-c-ne1 : goal.returns-then-counts-c-ne1
unfolding answer_of settled refusal_of refusals
returns-then-counts-c-ne1 c = ap answer_of (later_found _ _ c.loop-c-test.true c.loop-c.invariant.2 c.loop-c.invariant.1 c.if-counts-c-ne1.true)

pub loop-c-preserved : goal.loop-c-preserved
loop-c-preserved c = (omega arith, omega arith, later_turn _ _ c.loop-c.invariant.2 c.loop-c.invariant.1 c.if-counts-c-ne1.false)

pub returns : goal.returns
unfolding answer_of settled
returns c = ap answer_of (first_end _ _ _ c.loop-c.invariant.0 c.loop-c-test.false c.loop-c.invariant.2)
