use mathlib.Core.Path.{◌∙◌, ap}
use Rattle.legrudda.specs.Exported.{plan_of}
use Rattle.legrudda.proofs.plans.legrudda_stacked_matrix.Goals as goal

-- src/plans.rt:74:1
pub returns : goal.returns
returns c = (c.into.ensures ∙ ap plan_of c.stacked_matrix.ensures.0, c.stacked_matrix.ensures.1)
