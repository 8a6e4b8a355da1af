use mathlib.Core.Path.{◌∙◌, ap}
use Rattle.legrudda.specs.Exported.{plan_of}
use Rattle.legrudda.proofs.plans.legrudda_plan.Goals as goal

pub returns : goal.returns
returns c = (c.into.ensures ∙ ap plan_of c.new.ensures.0, c.new.ensures.1)
