use Rattle.layout.specs.Answers.{answer_of}
use Rattle.std.proofs.Common.{refl}
use Rattle.layout.proofs.Answering.{zero_by, not_zero_by, refused_by}
use Rattle.prover.proofs.UniChecks.{uni_length, uni_point, uni_u, uni_eq_lem, uni_fine}
use mathlib.Core.Path.{ap}
use mathlib.Core.Bool.{not}
use Rattle.prover.proofs.words.uni_number.Goals as goal

pub returns-then-matrices-stacked : goal.returns-then-matrices-stacked
unfolding answer_of
returns-then-matrices-stacked c =
    let pre = c.requires in
    uni_length _ _ _ _ _ _ _ _ pre.1 pre.0 c.if-matrices-stacked.true

pub returns-in_err-point_number : goal.returns-in_err-point_number
unfolding answer_of
returns-in_err-point_number c =
    let pre = c.requires in
    uni_point _ _ _ _ _ _ _ _ pre.1 pre.0 c.if-matrices-stacked.false refl _ (refused_by _ _ _ _ c.point_number.ensures c.in_err-point_number.was c.from_residual.ensures.1 refl) (not_zero_by _ _ c.point_number.ensures c.in_err-point_number.was)

pub returns-then-not-canonical_four : goal.returns-then-not-canonical_four
unfolding answer_of
returns-then-not-canonical_four c =
    let pre = c.requires in
    uni_u _ _ _ _ _ _ _ _ pre.1 pre.0 c.if-matrices-stacked.false refl (zero_by _ _ c.point_number.ensures c.in_ok-point_number.was) c.canonical_four.ensures (ap not c.if-not-canonical_four.true)

pub returns-then-not-canonical : goal.returns-then-not-canonical
unfolding answer_of
returns-then-not-canonical c =
    let pre = c.requires in
    uni_eq_lem _ _ _ _ _ _ _ _ pre.1 pre.0 c.if-matrices-stacked.false refl (zero_by _ _ c.point_number.ensures c.in_ok-point_number.was) c.canonical_four.ensures (ap not c.if-not-canonical_four.false) c.canonical.ensures (ap not c.if-not-canonical.true)

pub returns : goal.returns
unfolding answer_of
returns c =
    let pre = c.requires in
    uni_fine _ _ _ _ _ _ _ _ pre.1 pre.0 c.if-matrices-stacked.false refl (zero_by _ _ c.point_number.ensures c.in_ok-point_number.was) c.canonical_four.ensures (ap not c.if-not-canonical_four.false) c.canonical.ensures (ap not c.if-not-canonical.false)
