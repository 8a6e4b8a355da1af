use Rattle.std.proofs.Common.{sym, ◌∙◌, arith}
use Rattle.prover.proofs.Refusing.{error_is}
use Rattle.prover.proofs.PlanLaws.{plan_limits}
use Rattle.prover.proofs.RoomLaws.{lists-refused, length-refused, room_small, lists-taken}
use Rattle.prover.proofs.rooms.run_room.Goals as goal

pub returns-in_err-run : goal.returns-in_err-run
returns-in_err-run c = lists-refused _ _ _ _ (sym c.read_lists.ensures ∙ c.in_err-run.was) (error_is _ c.from_residual.ensures.1)

pub returns-in_err-run-2 : goal.returns-in_err-run-2
returns-in_err-run-2 c = length-refused _ _ _ _ _ (sym c.read_lists.ensures ∙ c.in_ok-run.was) c.in_err-run-2.was (error_is _ c.from_residual-in_err-run-2.ensures.1)

pub slots_of-slots-requires : goal.slots_of-slots-requires
slots_of-slots-requires c = plan_limits _ _ _ _ _ (sym c.read_lists.ensures ∙ c.in_ok-run.was) c.in_ok-run-2.was

pub overflow_add-entries : goal.overflow_add-entries
overflow_add-entries c = omega (arith, plan_limits _ _ _ _ _ (sym c.read_lists.ensures ∙ c.in_ok-run.was) c.in_ok-run-2.was)

pub overflow_add-entries-2 : goal.overflow_add-entries-2
overflow_add-entries-2 c = omega (arith, plan_limits _ _ _ _ _ (sym c.read_lists.ensures ∙ c.in_ok-run.was) c.in_ok-run-2.was)

pub bounds-slots-l_skip : goal.bounds-slots-l_skip
bounds-slots-l_skip c = omega (arith, plan_limits _ _ _ _ _ (sym c.read_lists.ensures ∙ c.in_ok-run.was) c.in_ok-run-2.was)

pub taken_run-requires : goal.taken_run-requires
taken_run-requires c =
    let whole = room_small _ _ _ _ _ (sym c.read_lists.ensures ∙ c.in_ok-run.was) c.in_ok-run-2.was _ c.slots_of-slots.ensures c.claim_count-claims.ensures in
    record { n_stack_bound = whole.0; l_skip_bound = whole.1 }

pub returns : goal.returns
returns c = lists-taken _ _ _ _ _ (sym c.read_lists.ensures ∙ c.in_ok-run.was) c.in_ok-run-2.was _ c.slots_of-slots.ensures c.claim_count-claims.ensures c.taken_run.ensures
