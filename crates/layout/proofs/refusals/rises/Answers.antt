use Prim.Native.Nat.{ℕ}
use mathlib.Core.Path.{ap, ◌∙◌}
use native.Mathlib.Omega.{arith}
use Rattle.field.specs.Number.{settled, refusal_of, refusals}
use Rattle.layout.specs.Answers.{answer_of}
use Rattle.layout.specs.Checks.{first_of}
use Rattle.layout.specs.Refusals.{rise_number}
use Rattle.layout.proofs.Firsts.{first_end}
use Rattle.layout.proofs.Turns.{lowest_start, rise_turn, rise_found}
use Rattle.layout.proofs.refusals.rises.Goals as goal

pub loop-b-init : goal.loop-b-init
loop-b-init c = (omega arith, c.min-end.ensures, lowest_start _)

pub returns-then-last-low : goal.returns-then-last-low
unfolding answer_of settled refusal_of refusals
returns-then-last-low c = ap answer_of (rise_found _ _ _ _ c.lowered-low.ensures c.loop-b.invariant.2 _ (omega (arith, c.loop-b.invariant.1)) (omega (arith, c.lowered-low.type_inv)) c.if-last-low.true)

pub loop-b-preserved : goal.loop-b-preserved
loop-b-preserved c = (omega arith, c.loop-b.invariant.1, rise_turn _ _ _ _ c.lowered-low.ensures c.loop-b.invariant.2 c.if-last-low.false)

pub returns : goal.returns
unfolding answer_of settled
returns c = ap answer_of (first_end _ _ _ c.loop-b.invariant.0 c.loop-b-test.false c.loop-b.invariant.2.none ∙ ap (λ (k : ℕ). first_of k (rise_number c.args.list.now)) c.loop-b.invariant.1)
