use Rattle.std.proofs.Common.{refl}
use Rattle.layout.proofs.Answering.{zero_by, not_zero_by, refused_by}
use Rattle.field.specs.Number.{settled, refusal_of, refusals}
use Rattle.layout.specs.Answers.{answer_of}
use Rattle.layout.proofs.Firsts.{skip, stop}
use Rattle.layout.proofs.CheckChains.{length_skip, length_stop, scan_no, scan_yes}
use Rattle.prover.specs.CallNumbers.{openings_words}
use mathlib.Core.Path.{ap}
use mathlib.Core.Bool.{not}
use Rattle.prover.proofs.words.openings_number.Goals as goal

pub returns-then-out-stacked : goal.returns-then-out-stacked
unfolding openings_words answer_of settled refusal_of refusals
returns-then-out-stacked c = ap answer_of (length_stop _ _ _ c.if-out-stacked.true)

pub returns-in_err-point_number : goal.returns-in_err-point_number
unfolding openings_words answer_of
returns-in_err-point_number c = refused_by _ _ _ _ c.point_number.ensures c.in_err-point_number.was c.from_residual.ensures.1 (length_skip _ _ _ c.if-out-stacked.false (stop _ _ _ refl (not_zero_by _ _ c.point_number.ensures c.in_err-point_number.was)))

pub returns-then-not-canonical_part : goal.returns-then-not-canonical_part
unfolding openings_words answer_of settled refusal_of refusals
returns-then-not-canonical_part c = ap answer_of (length_skip _ _ _ c.if-out-stacked.false (skip _ _ (zero_by _ _ c.point_number.ensures c.in_ok-point_number.was) (scan_no _ c.canonical_part.ensures (ap not c.if-not-canonical_part.true))))

pub returns : goal.returns
unfolding openings_words answer_of settled refusal_of refusals
returns c = ap answer_of (length_skip _ _ _ c.if-out-stacked.false (skip _ _ (zero_by _ _ c.point_number.ensures c.in_ok-point_number.was) (scan_yes _ c.canonical_part.ensures (ap not c.if-not-canonical_part.false))))
