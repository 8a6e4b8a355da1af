use Rattle.std.proofs.Common.{refl}
use Rattle.layout.proofs.Answering.{zero_by, not_zero_by, refused_by}
use Rattle.field.specs.Number.{settled, refusal_of, refusals}
use Rattle.layout.specs.Answers.{answer_of}
use Rattle.prover.proofs.MadeChecks.{made-r, made-matrices, made-out, made-point, made_words_lem, made_fine}
use mathlib.Core.Path.{ap}
use mathlib.Core.Bool.{not}
use Rattle.prover.proofs.made.made_number.Goals as goal

pub returns-then-given : goal.returns-then-given
unfolding answer_of settled refusal_of refusals
returns-then-given c = ap answer_of (made-r _ _ _ _ _ _ _ _ c.requires c.if-given.true)

pub returns-then-matrices-stacked : goal.returns-then-matrices-stacked
unfolding answer_of settled refusal_of refusals
returns-then-matrices-stacked c = ap answer_of (made-matrices _ _ _ _ _ _ _ _ c.requires c.if-given.false c.if-matrices-stacked.true)

pub returns-then-out-asked : goal.returns-then-out-asked
unfolding answer_of settled refusal_of refusals
returns-then-out-asked c = ap answer_of (made-out _ _ _ _ _ _ _ _ c.requires c.if-given.false c.if-matrices-stacked.false c.if-out-asked.true)

pub returns-in_err-point_number : goal.returns-in_err-point_number
unfolding answer_of
returns-in_err-point_number c =
    refused_by _ _ _ _ c.point_number.ensures c.in_err-point_number.was c.from_residual.ensures.1
    (made-point _ _ _ _ _ _ _ _ c.requires c.if-given.false c.if-matrices-stacked.false c.if-out-asked.false refl (not_zero_by _ _ c.point_number.ensures c.in_err-point_number.was))

pub returns-then-not-canonical : goal.returns-then-not-canonical
unfolding answer_of settled refusal_of refusals
returns-then-not-canonical c = ap answer_of (made_words_lem _ _ _ _ _ _ _ _ c.requires c.if-given.false c.if-matrices-stacked.false c.if-out-asked.false refl (zero_by _ _ c.point_number.ensures c.in_ok-point_number.was) c.canonical.ensures (ap not c.if-not-canonical.true))

pub returns : goal.returns
unfolding answer_of settled refusal_of refusals
returns c = ap answer_of (made_fine _ _ _ _ _ _ _ _ c.requires c.if-given.false c.if-matrices-stacked.false c.if-out-asked.false refl (zero_by _ _ c.point_number.ensures c.in_ok-point_number.was) c.canonical.ensures (ap not c.if-not-canonical.false))
