use Rattle.std.proofs.Common.{sym, ◌∙◌}
use Rattle.layout.specs.Answers.{answer_of}
use Rattle.layout.proofs.Answering.{zero_by}
use Rattle.prover.specs.Given.{given_of, work}
use Rattle.prover.proofs.Refusing.{handed_on}
use Rattle.prover.proofs.RoundPlans.{plan-refused, point-refused, live-refused, live-planned, round_from, live-asks}
use Rattle.prover.proofs.stacked_reduction.round_plan.Goals as goal

pub returns-in_err-plan : goal.returns-in_err-plan
returns-in_err-plan c =
    let g = given_of c.args.given in
    let w = work c.args.q_evals.now c.args.eq_r.now c.args.k_rot_r.now c.args.eq_ub.now in
    handed_on _ _ _ c.from_residual.ensures.1 (plan-refused g _ _ w c.in_err-plan.ensures)

pub returns-in_err-point_number : goal.returns-in_err-point_number
returns-in_err-point_number c =
    let g = given_of c.args.given in
    let w = work c.args.q_evals.now c.args.eq_r.now c.args.k_rot_r.now c.args.eq_ub.now in
    handed_on _ _ _ c.from_residual-in_err-point_number.ensures.1 (point-refused g _ _ w _ c.in_ok-plan.ensures (sym c.point_number.ensures ∙ c.in_err-point_number.was))

pub overflow_sub-round : goal.overflow_sub-round
overflow_sub-round c =
    let g = given_of c.args.given in
    let w = work c.args.q_evals.now c.args.eq_r.now c.args.k_rot_r.now c.args.eq_ub.now in
    round_from g _ _ w _ c.in_ok-plan.ensures c.requires

pub live_number-requires : goal.live_number-requires
live_number-requires c =
    let g = given_of c.args.given in
    let w = work c.args.q_evals.now c.args.eq_r.now c.args.k_rot_r.now c.args.eq_ub.now in
    let whole = live-asks g _ _ w _ c.in_ok-plan.ensures c.requires in
    record { n_stack_bound = whole.0; slots = whole.1.0; q_len = whole.1.1.0; eq_len = whole.1.1.1.0; rot_len = whole.1.1.1.1 }

pub returns-in_err-live_number : goal.returns-in_err-live_number
unfolding answer_of
returns-in_err-live_number c =
    let g = given_of c.args.given in
    let w = work c.args.q_evals.now c.args.eq_r.now c.args.k_rot_r.now c.args.eq_ub.now in
    handed_on _ _ _ c.from_residual-in_err-live_number.ensures.1 (live-refused g _ _ w _ c.in_ok-plan.ensures (zero_by _ _ c.point_number.ensures c.in_ok-point_number.was) (sym c.live_number.ensures ∙ c.in_err-live_number.was))

pub returns : goal.returns
unfolding answer_of
returns c =
    let g = given_of c.args.given in
    let w = work c.args.q_evals.now c.args.eq_r.now c.args.k_rot_r.now c.args.eq_ub.now in
    live-planned g _ _ w _ c.in_ok-plan.ensures (zero_by _ _ c.point_number.ensures c.in_ok-point_number.was) (zero_by _ _ c.live_number.ensures c.in_ok-live_number.was)
