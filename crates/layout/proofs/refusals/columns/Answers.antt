use mathlib.Core.Path.{refl, ap}
use native.Mathlib.Omega.{arith}
use Rattle.field.specs.Number.{settled, refusal_of, refusals}
use Rattle.layout.specs.Answers.{answer_of}
use Rattle.layout.specs.Checks.{first_of}
use Rattle.layout.specs.Triples.{columns_before}
use Rattle.layout.proofs.Turns.{kept_le, count_next, width_turn, width-found}
use Rattle.layout.proofs.Firsts.{first_end}
use Rattle.layout.proofs.refusals.columns.Goals as goal

pub loop-i-init : goal.loop-i-init
unfolding first_of columns_before
loop-i-init c = (omega arith, omega arith, λ h. refl, refl)

pub overflow_add-count : goal.overflow_add-count
overflow_add-count c = omega (arith, kept_le c.args.first c.loop-i.i c.loop-i.count c.kept-before.result c.kept-before.ensures, c.loop-i.invariant.1)

pub returns-then-count-gt4096 : goal.returns-then-count-gt4096
unfolding answer_of settled refusal_of refusals
returns-then-count-gt4096 c = ap answer_of (width-found _ _ _ _ _ _ c.loop-i.invariant.2 c.kept-before.ensures refl c.loop-i-test.true c.loop-i.invariant.3 c.if-count-gt4096.true)

pub loop-i-preserved : goal.loop-i-preserved
loop-i-preserved c = (omega arith, c.if-count-gt4096.false, count_next _ _ _ _ _ _ c.loop-i.invariant.2 c.kept-before.ensures refl, width_turn _ _ _ _ _ _ c.loop-i.invariant.2 c.kept-before.ensures refl c.loop-i.invariant.3 c.if-count-gt4096.false)

pub returns : goal.returns
unfolding answer_of settled
returns c = ap answer_of (first_end _ _ _ c.loop-i.invariant.0 c.loop-i-test.false c.loop-i.invariant.3)
