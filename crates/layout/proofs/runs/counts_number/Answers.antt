-- `runs::counts_number` meets its contract. Assumes nothing.
use mathlib.Core.Path.{refl, ap, ◌∙◌}
use native.Mathlib.Omega.{arith}
use borrow.Author.Tests.{eq-eqb, ne_eqb, lt-ltb, le-ltb}
use Rattle.field.specs.Number.{settled, refusal_of, refusals}
use Rattle.layout.specs.Answers.{answer_of}
use Rattle.layout.specs.Lists.{counts_number}
use Rattle.layout.proofs.Firsts.{skips, stops}
use Rattle.layout.proofs.runs.counts_number.Goals as goal

pub returns-then-n-eq0 : goal.returns-then-n-eq0
unfolding counts_number answer_of settled refusal_of refusals
returns-then-n-eq0 c = ap answer_of (stops _ _ _ (omega arith) (eq-eqb _ _ c.if-n-eq0.true))

pub returns-then-n-gt16 : goal.returns-then-n-gt16
unfolding counts_number answer_of settled refusal_of refusals
returns-then-n-gt16 c = ap answer_of (skips _ _ _ (ne_eqb _ _ c.if-n-eq0.false) (stops _ _ _ (omega arith) (lt-ltb _ _ c.if-n-gt16.true)))

pub returns-then-counts-gt4096 : goal.returns-then-counts-gt4096
unfolding counts_number answer_of settled refusal_of refusals
returns-then-counts-gt4096 c = ap answer_of (skips _ _ _ (ne_eqb _ _ c.if-n-eq0.false) (skips _ _ _ (le-ltb _ _ c.if-n-gt16.false) (stops _ _ _ (omega arith) (lt-ltb _ _ c.if-counts-gt4096.true))))

pub returns : goal.returns
unfolding counts_number answer_of
returns c = c.later_counts.ensures ∙ ap answer_of (skips _ _ _ (ne_eqb _ _ c.if-n-eq0.false) (skips _ _ _ (le-ltb _ _ c.if-n-gt16.false) (skips _ _ _ (le-ltb _ _ c.if-counts-gt4096.false) refl)))
