-- `refusals::plan` meets its contract. Assumes nothing.
use mathlib.Core.Path.{refl, ap, ◌∙◌}
use Rattle.layout.specs.Answers.{answer_of}
use Rattle.layout.specs.Refusals.{plan_number}
use Rattle.layout.proofs.Answering.{zero_by, not_zero_by, refused_by}
use Rattle.layout.proofs.Firsts.{skip, stop}
use Rattle.layout.proofs.Passed.{shape_passed, planned-shaped}
use Rattle.layout.proofs.refusals.plan.Goals as goal

pub returns-in_err-shape : goal.returns-in_err-shape
unfolding plan_number answer_of
returns-in_err-shape c =
    refused_by _ _ _ _ c.shape.ensures c.in_err-shape.was c.from_residual.ensures.1
    (stop _ _ _ refl (not_zero_by _ _ c.shape.ensures c.in_err-shape.was))

pub laid-requires : goal.laid-requires
unfolding answer_of
laid-requires c = planned-shaped _ _ _ (shape_passed _ _ _ (zero_by _ _ c.shape.ensures c.in_ok-shape.was))

pub returns : goal.returns
unfolding plan_number answer_of
returns c = c.laid.ensures ∙ ap answer_of (skip _ _ (zero_by _ _ c.shape.ensures c.in_ok-shape.was) refl)
