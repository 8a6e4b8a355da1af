use mathlib.Core.Path.{sym, ◌∙◌, ap}
use Rattle.legrudda.specs.Exported.{place_of}
use Rattle.legrudda.proofs.ExportedLaws.{place_refused}
use Rattle.legrudda.proofs.plans.legrudda_mat_place.Goals as goal

pub returns-in-Ok : goal.returns-in-Ok
unfolding place_of
returns-in-Ok c = ap place_of (sym c.in-Ok.is ∙ c.mat_place.ensures)

pub returns-in-Err : goal.returns-in-Err
returns-in-Err c = place_refused _ _ c.into.ensures ∙ ap place_of (sym c.in-Err.is ∙ c.mat_place.ensures)
