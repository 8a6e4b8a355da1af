-- `refusals::laid` meets its contract. Assumes nothing.
use mathlib.Core.Path.{refl, ap, ◌∙◌}
use Rattle.layout.specs.Answers.{answer_of}
use Rattle.layout.specs.Refusals.{laid_number}
use Rattle.layout.proofs.Answering.{zero_by, not_zero_by, refused_by}
use Rattle.layout.proofs.Firsts.{skip, stop}
use Rattle.layout.proofs.refusals.laid.Goals as goal

pub returns-in_err-walk : goal.returns-in_err-walk
unfolding laid_number answer_of
returns-in_err-walk c =
    refused_by _ _ _ _ c.walk.ensures c.in_err-walk.was c.from_residual.ensures.1
    (stop _ _ _ refl (not_zero_by _ _ c.walk.ensures c.in_err-walk.was))

pub returns : goal.returns
unfolding laid_number answer_of
returns c = c.rises.ensures ∙ ap answer_of (skip _ _ (zero_by _ _ c.walk.ensures c.in_ok-walk.was) refl)
