-- `stacked_pcs::StackedLayout::new` meets its contract. Assumes nothing.
use mathlib.Core.Path.{refl}
use Rattle.layout.specs.Answers.{answer_of}
use Rattle.layout.specs.Planning.{laid_out, planned_of}
use Rattle.layout.proofs.Answering.{zero_by, not_zero_by, refused_by}
use Rattle.layout.proofs.Handing.{handed}
use Rattle.layout.proofs.Passed.{plan-passed, plan_laid, planned-columns}
use Rattle.layout.proofs.Plans.{planning_plan, planning_places, into-refused, into_done}
use Rattle.layout.proofs.stacked_pcs.StackedLayout.new.Goals as goal

pub returns-in_err-planning : goal.returns-in_err-planning
unfolding planned_of laid_out answer_of
returns-in_err-planning c = (refused_by _ _ _ _ c.planning.ensures c.in_err-planning.was c.from_residual.ensures.1 refl, into-refused _ _ _ _ (not_zero_by _ _ c.planning.ensures c.in_err-planning.was))

pub write-requires : goal.write-requires
unfolding answer_of
write-requires c = (planning_plan _ _ _ _ (zero_by _ _ c.planning.ensures c.in_ok-planning.was), planning_places _ _ _ _ (zero_by _ _ c.planning.ensures c.in_ok-planning.was))

pub planned-requires : goal.planned-requires
unfolding answer_of
planned-requires c = let e = planning_plan _ _ _ _ (zero_by _ _ c.planning.ensures c.in_ok-planning.was) in (plan_laid _ _ _ e, planned-columns _ _ _ (plan-passed _ _ _ e).0)

pub returns : goal.returns
unfolding planned_of laid_out answer_of
returns c = let z = zero_by _ _ c.planning.ensures c.in_ok-planning.was in (handed _ z c.planned.ensures, into_done _ _ _ _ _ z c.write.ensures)
