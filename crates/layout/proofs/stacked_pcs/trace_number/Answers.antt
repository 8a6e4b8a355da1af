-- `stacked_pcs::trace_number` meets its contract. Assumes nothing.
use mathlib.Core.Path.{refl, ◌∙◌, ap}
use Rattle.layout.specs.Answers.{answer_of}
use Rattle.layout.specs.Stacking.{trace_number}
use Rattle.layout.proofs.Answering.{zero_by, not_zero_by, refused_by}
use Rattle.layout.proofs.Firsts.{skip, stop}
use Rattle.layout.proofs.stacked_pcs.trace_number.Goals as goal

pub returns-in_err-shape : goal.returns-in_err-shape
unfolding trace_number answer_of
returns-in_err-shape c = refused_by _ _ _ _ c.shape.ensures c.in_err-shape.was c.from_residual.ensures.1 (stop _ _ _ refl (not_zero_by _ _ c.shape.ensures c.in_err-shape.was))

pub returns : goal.returns
unfolding trace_number answer_of
returns c = c.heights.ensures ∙ ap answer_of (skip _ _ (zero_by _ _ c.shape.ensures c.in_ok-shape.was) refl)
