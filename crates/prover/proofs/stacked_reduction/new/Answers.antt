use Rattle.std.proofs.Common.{sym, ◌∙◌, arith}
use Rattle.layout.specs.Answers.{answer_of}
use Rattle.layout.proofs.Answering.{zero_by}
use Rattle.prover.specs.Given.{given_of, work}
use Rattle.prover.proofs.HeightScales.{one_canonical}
use Rattle.prover.proofs.StartCalls.{facts, start_refused, point_stops, values-room, ub_room, zeros_canonical, tables-asks, start_done}
use Rattle.prover.proofs.stacked_reduction.new.Goals as goal

pub returns-in-Err : goal.returns-in-Err
returns-in-Err c =
    let a = c.args in
    let g = given_of c.args.given in
    let w = work c.args.q_evals.now c.args.eq_r.now c.args.k_rot_r.now c.args.eq_ub.now in
    let whole = start_refused g a.turn w c.in-Err.ensures c.refused.ensures in
    record { value = whole.0; eq_ub_after = whole.1 }

pub returns-in-Err-point_number : goal.returns-in-Err-point_number
returns-in-Err-point_number c =
    let a = c.args in
    let g = given_of c.args.given in
    let w = work c.args.q_evals.now c.args.eq_r.now c.args.k_rot_r.now c.args.eq_ub.now in
    let whole = point_stops g a.turn w _ c.in-Ok.ensures (sym c.point_number.ensures ∙ c.in-Err-point_number.is) c.refused-in-Err-point_number.ensures in
    record { value = whole.0; eq_ub_after = whole.1 }

pub overflow_shl-plan : goal.overflow_shl-plan
overflow_shl-plan c =
    let a = c.args in
    let g = given_of c.args.given in
    let w = work c.args.q_evals.now c.args.eq_r.now c.args.k_rot_r.now c.args.eq_ub.now in
    omega (arith, (facts g a.turn w _ c.in-Ok.ensures).stack_few)

pub fill-requires : goal.fill-requires
fill-requires c =
    let a = c.args in
    let g = given_of c.args.given in
    let w = work c.args.q_evals.now c.args.eq_r.now c.args.k_rot_r.now c.args.eq_ub.now in
    record { n_in_bounds = values-room g a.turn w _ c.in-Ok.ensures; canonical = zeros_canonical }

pub start_tables-requires : goal.start_tables-requires
unfolding answer_of
start_tables-requires c =
    let a = c.args in
    let g = given_of c.args.given in
    let w = work c.args.q_evals.now c.args.eq_r.now c.args.k_rot_r.now c.args.eq_ub.now in
    let whole = tables-asks g a.turn w _ c.in-Ok.ensures (zero_by _ _ c.point_number.ensures c.in_default.is) in
    record { n_stack_bound = whole.0; slots = whole.1.0; r_len = whole.1.1.0; r_value = whole.1.1.1.0; eq_len = whole.1.1.1.1 }

pub fill-requires-3 : goal.fill-requires-3
fill-requires-3 c =
    let a = c.args in
    let g = given_of c.args.given in
    let w = work c.args.q_evals.now c.args.eq_r.now c.args.k_rot_r.now c.args.eq_ub.now in
    record { n_in_bounds = ub_room g a.turn w _ c.in-Ok.ensures; canonical = one_canonical }

pub returns : goal.returns
unfolding answer_of
returns c =
    let a = c.args in
    let g = given_of c.args.given in
    let w = work c.args.q_evals.now c.args.eq_r.now c.args.k_rot_r.now c.args.eq_ub.now in
    let whole = start_done g a.turn w _ c.in-Ok.ensures (zero_by _ _ c.point_number.ensures c.in_default.is) c.fill.ensures c.start_tables.ensures c.fill-2.ensures c.fill-3.ensures in
    record { value = whole.0; eq_ub_after = whole.1 }
