use mathlib.Core.Path.{sym, ◌∙◌, ap}
use Rattle.legrudda.specs.Exported.{slice_of}
use Rattle.legrudda.proofs.ExportedLaws.{slice_refused}
use Rattle.legrudda.proofs.plans.legrudda_get.Goals as goal

pub returns-in-Ok : goal.returns-in-Ok
unfolding slice_of
returns-in-Ok c = ap slice_of (sym c.in-Ok.is ∙ c.get.ensures)

pub returns-in-Err : goal.returns-in-Err
returns-in-Err c = slice_refused _ _ c.into.ensures ∙ ap slice_of (sym c.in-Err.is ∙ c.get.ensures)
