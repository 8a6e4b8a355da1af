use mathlib.Core.Path.{ap}
use Rattle.field.specs.Number.{settled, refusal_of, refusals}
use Rattle.layout.specs.Answers.{answer_of}
use Rattle.layout.proofs.CheckChains.{length_skip, length_stop, length_no, length_yes}
use Rattle.prover.specs.CallNumbers.{lengths_number}
use Rattle.prover.proofs.plans.lengths_number.Goals as goal

pub returns-then-r-n_stack : goal.returns-then-r-n_stack
unfolding lengths_number answer_of settled refusal_of refusals
returns-then-r-n_stack c = ap answer_of (length_stop _ _ _ c.if-r-n_stack.true)

pub returns-then-q-values : goal.returns-then-q-values
unfolding lengths_number answer_of settled refusal_of refusals
returns-then-q-values c = ap answer_of (length_skip _ _ _ c.if-r-n_stack.false (length_stop _ _ _ c.if-q-values.true))

pub returns-then-eq-size : goal.returns-then-eq-size
unfolding lengths_number answer_of settled refusal_of refusals
returns-then-eq-size c = ap answer_of (length_skip _ _ _ c.if-r-n_stack.false (length_skip _ _ _ c.if-q-values.false (length_stop _ _ _ c.if-eq-size.true)))

pub returns-then-rot-size : goal.returns-then-rot-size
unfolding lengths_number answer_of settled refusal_of refusals
returns-then-rot-size c = ap answer_of (length_skip _ _ _ c.if-r-n_stack.false (length_skip _ _ _ c.if-q-values.false (length_skip _ _ _ c.if-eq-size.false (length_stop _ _ _ c.if-rot-size.true))))

pub returns-then-ub-columns : goal.returns-then-ub-columns
unfolding lengths_number answer_of settled refusal_of refusals
returns-then-ub-columns c = ap answer_of (length_skip _ _ _ c.if-r-n_stack.false (length_skip _ _ _ c.if-q-values.false (length_skip _ _ _ c.if-eq-size.false (length_skip _ _ _ c.if-rot-size.false (length_no _ _ c.if-ub-columns.true)))))

pub returns : goal.returns
unfolding lengths_number answer_of settled refusal_of refusals
returns c = ap answer_of (length_skip _ _ _ c.if-r-n_stack.false (length_skip _ _ _ c.if-q-values.false (length_skip _ _ _ c.if-eq-size.false (length_skip _ _ _ c.if-rot-size.false (length_yes _ _ c.if-ub-columns.false)))))
