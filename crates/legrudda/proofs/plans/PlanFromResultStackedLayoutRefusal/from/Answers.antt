use mathlib.Core.Path.{sym, ap}
use Rattle.legrudda.specs.Exported.{plan_of}
use Rattle.legrudda.proofs.plans.PlanFromResultStackedLayoutRefusal.from.Goals as goal

pub returns-in-Ok : goal.returns-in-Ok
unfolding plan_of
returns-in-Ok c = ap plan_of (sym c.in-Ok.is)

pub returns-in-Err : goal.returns-in-Err
unfolding plan_of
returns-in-Err c = rw c.in-Err.is (ap (λ n. record { number = n; width = 0; height = 0; columns = 0 }) c.into.ensures)
