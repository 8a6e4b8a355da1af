-- `rows::number` meets its contract: the numbers in their order. Assumes nothing.
use mathlib.Core.Bool.{not}
use mathlib.Core.Path.{refl, ap}
use Rattle.field.specs.Number.{settled, refusal_of, refusals}
use Rattle.layout.specs.Answers.{answer_of}
use Rattle.layout.proofs.Answering.{zero_by, not_zero_by, refused_by}
use Rattle.layout.proofs.Firsts.{skip, stop}
use Rattle.layout.proofs.CheckChains.{length_skip, length_stop, scan_no, scan_yes}
use Rattle.storage.specs.Storing.{rows_number}
use Rattle.storage.proofs.rows.number.Goals as goal

pub returns-in_err-size : goal.returns-in_err-size
unfolding rows_number answer_of
returns-in_err-size c =
    refused_by _ _ _ _ c.size.ensures c.in_err-size.was c.from_residual.ensures.1
    (stop _ _ _ refl (not_zero_by _ _ c.size.ensures c.in_err-size.was))

pub returns-then-from-n : goal.returns-then-from-n
unfolding rows_number answer_of settled refusal_of refusals
returns-then-from-n c =
    ap answer_of (skip _ _ (zero_by _ _ c.size.ensures c.in_ok-size.was) (length_stop _ _ _ c.if-from-n.true))

pub returns-then-places-n : goal.returns-then-places-n
unfolding rows_number answer_of settled refusal_of refusals
returns-then-places-n c =
    ap answer_of (skip _ _ (zero_by _ _ c.size.ensures c.in_ok-size.was)
    (length_skip _ _ _ c.if-from-n.false (length_stop _ _ _ c.if-places-n.true)))

pub returns-then-not-canonical : goal.returns-then-not-canonical
unfolding rows_number answer_of settled refusal_of refusals
returns-then-not-canonical c =
    ap answer_of (skip _ _ (zero_by _ _ c.size.ensures c.in_ok-size.was)
    (length_skip _ _ _ c.if-from-n.false (length_skip _ _ _ c.if-places-n.false (scan_no _ c.canonical.ensures (ap not c.if-not-canonical.true)))))

pub returns : goal.returns
unfolding rows_number answer_of settled refusal_of refusals
returns c =
    ap answer_of (skip _ _ (zero_by _ _ c.size.ensures c.in_ok-size.was)
    (length_skip _ _ _ c.if-from-n.false (length_skip _ _ _ c.if-places-n.false (scan_yes _ c.canonical.ensures (ap not c.if-not-canonical.false)))))
