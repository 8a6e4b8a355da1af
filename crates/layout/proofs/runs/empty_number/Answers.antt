-- `runs::empty_number` meets its contract. Assumes nothing.
use mathlib.Core.Path.{refl, sym, ap, ◌∙◌}
use native.Mathlib.Omega.{arith}
use borrow.Author.Tests.{eq-eqb, ne_eqb}
use Rattle.field.specs.Number.{settled, refusal_of, refusals}
use Rattle.layout.specs.Answers.{answer_of}
use Rattle.layout.specs.Triples.{columns_before}
use Rattle.layout.specs.Lists.{empty_number}
use Rattle.layout.proofs.Firsts.{skips, stops}
use Rattle.layout.proofs.runs.empty_number.Goals as goal

pub returns-then-count_before-eq0 : goal.returns-then-count_before-eq0
unfolding empty_number answer_of settled refusal_of refusals
returns-then-count_before-eq0 c = ap answer_of (stops _ _ _ (omega arith) (eq-eqb _ _ (ap (columns_before _) (sym c.min-end.ensures) ∙ (sym c.count_before.ensures ∙ c.if-count_before-eq0.true))))

pub returns : goal.returns
unfolding empty_number answer_of
returns c = c.later_empty.ensures ∙ ap answer_of (skips _ _ _ (ne_eqb _ _ (λ e. c.if-count_before-eq0.false (c.count_before.ensures ∙ (ap (columns_before _) c.min-end.ensures ∙ e)))) refl)
