-- `unsorted::number` meets its contract: the numbers in their order. Assumes nothing.
use mathlib.Core.Path.{refl, ap}
use native.Mathlib.Omega.{arith}
use Rattle.field.specs.Number.{settled, refusal_of, refusals}
use Rattle.layout.specs.Answers.{answer_of}
use Rattle.layout.proofs.Answering.{zero_by, not_zero_by, refused_by}
use Rattle.layout.proofs.Firsts.{differs, same, skip, stop, skips, stops}
use Rattle.layout.proofs.CheckChains.{length_no, length_yes}
use Rattle.ordering.specs.Unsorted.{in_order_number}
use Rattle.ordering.proofs.unsorted.number.Goals as goal

pub returns-in_err-planning : goal.returns-in_err-planning
unfolding in_order_number answer_of
returns-in_err-planning c =
    refused_by _ _ _ _ c.planning.ensures c.in_err-planning.was c.from_residual.ensures.1
    (stop _ _ _ refl (not_zero_by _ _ c.planning.ensures c.in_err-planning.was))

pub returns-then-over-ne0 : goal.returns-then-over-ne0
unfolding in_order_number answer_of settled refusal_of refusals
returns-then-over-ne0 c =
    ap answer_of (skip _ _ (zero_by _ _ c.planning.ensures c.in_ok-planning.was) (stops _ _ _ (omega arith) (differs _ _ c.if-over-ne0.true)))

pub returns-then-arrivals-sorted : goal.returns-then-arrivals-sorted
unfolding in_order_number answer_of settled refusal_of refusals
returns-then-arrivals-sorted c =
    ap answer_of (skip _ _ (zero_by _ _ c.planning.ensures c.in_ok-planning.was)
    (skips _ _ _ (same _ _ c.if-over-ne0.false) (length_no _ _ c.if-arrivals-sorted.true)))

pub returns : goal.returns
unfolding in_order_number answer_of settled refusal_of refusals
returns c =
    ap answer_of (skip _ _ (zero_by _ _ c.planning.ensures c.in_ok-planning.was)
    (skips _ _ _ (same _ _ c.if-over-ne0.false) (length_yes _ _ c.if-arrivals-sorted.false)))
