use Rattle.std.proofs.Common.{arith}
use Rattle.prover.specs.Given.{given_of, work}
use Rattle.prover.specs.CallNumbers.{pair_number}
use Rattle.prover.proofs.CallLaws.{pair-refused, pair_done}
use Rattle.prover.proofs.RoundPlans.{round_within, turned-plan, turned_refusal, round_planned, round_placed, round_live, round_turn}
use Rattle.prover.proofs.stacked_reduction.batch_sumcheck_poly_eval.Goals as goal

pub round_plan-requires : goal.round_plan-requires
round_plan-requires c = round_within _ _ _ _ c.in_round-turned.ensures

pub returns-in-Err : goal.returns-in-Err
returns-in-Err c =
    let a = c.args in
    let g = given_of c.args.given in
    let w = work c.args.q_evals.now c.args.eq_r.now c.args.k_rot_r.now c.args.eq_ub.now in
    pair-refused _ (turned_refusal g a.round w c.in_round-turned.ensures c.in-Err.ensures) _ _ _ _ c.refused_pair.ensures

pub overflow_add-calls : goal.overflow_add-calls
overflow_add-calls c =
    let a = c.args in
    let g = given_of c.args.given in
    let w = work c.args.q_evals.now c.args.eq_r.now c.args.k_rot_r.now c.args.eq_ub.now in
    let r = round_turn g _ a.round w _ c.in-Ok.ensures _ a.turn c.in_round-turned.ensures in
    omega (arith, r.accepted, r.most, (round_planned g _ a.round w _ c.in-Ok.ensures).stack_few)

pub round_pair-pair-requires : goal.round_pair-pair-requires
round_pair-pair-requires c =
    let a = c.args in
    let g = given_of c.args.given in
    let w = work c.args.q_evals.now c.args.eq_r.now c.args.k_rot_r.now c.args.eq_ub.now in
    record { placed = round_placed g _ a.round w _ c.in-Ok.ensures; live_round = round_live g _ a.round w _ c.in-Ok.ensures (round_within _ _ _ a.turn c.in_round-turned.ensures) }

pub returns : goal.returns
returns c =
    let a = c.args in
    let g = given_of c.args.given in
    let w = work c.args.q_evals.now c.args.eq_r.now c.args.k_rot_r.now c.args.eq_ub.now in
    let is = turned-plan {g = g} a.round w c.in_round-turned.ensures c.in-Ok.ensures in
    pair_done (pair_number g a.turn a.round w) is.passed g a.turn a.round w is.is_first (c.round_pair-pair.ensures a.given.r.now)
