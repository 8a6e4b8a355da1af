use mathlib.Core.Path.{◌∙◌, ap}
use Rattle.legrudda.specs.Exported.{plan_of}
use Rattle.legrudda.proofs.plans.legrudda_plan_unsorted.Goals as goal

pub returns : goal.returns
returns c =
    let planned = c.plan_unsorted.ensures in
    (c.into.ensures ∙ ap plan_of planned.0, planned.1, planned.2)
