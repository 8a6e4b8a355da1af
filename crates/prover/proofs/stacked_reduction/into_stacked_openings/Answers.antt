use Rattle.std.proofs.Common.{sym, ◌∙◌, arith}
use Rattle.layout.specs.Answers.{answer_of}
use Rattle.layout.proofs.Answering.{zero_by}
use Rattle.prover.specs.Given.{given_of, work}
use Rattle.prover.specs.Turns.{openings_turn}
use Rattle.prover.proofs.Openings.{openings-refused, openings_ask, openings-calls, words_refused, copy_asks, openings_done}
use Rattle.prover.proofs.stacked_reduction.into_stacked_openings.Goals as goal

pub returns-in-Err : goal.returns-in-Err
unfolding openings_turn
returns-in-Err c =
    let a = c.args in
    let g = given_of c.args.given in
    let w = work c.args.q_evals.now c.args.eq_r.now c.args.k_rot_r.now c.args.eq_ub.now in
    let whole = openings-refused g a.turn a.out.now w c.in-Err.ensures c.refused.ensures in
    record { value = whole.0; out_after = whole.1 }

pub openings_number-requires : goal.openings_number-requires
unfolding openings_turn
openings_number-requires c =
    let a = c.args in
    let g = given_of c.args.given in
    let w = work c.args.q_evals.now c.args.eq_r.now c.args.k_rot_r.now c.args.eq_ub.now in
    openings_ask g a.turn a.out.now w _ c.in-Ok.ensures

pub returns-in-Err-openings_number : goal.returns-in-Err-openings_number
unfolding openings_turn
returns-in-Err-openings_number c =
    let a = c.args in
    let g = given_of c.args.given in
    let w = work c.args.q_evals.now c.args.eq_r.now c.args.k_rot_r.now c.args.eq_ub.now in
    let whole = words_refused g a.turn a.out.now w _ c.in-Ok.ensures (sym c.openings_number.ensures ∙ c.in-Err-openings_number.is) c.refused-in-Err-openings_number.ensures in
    record { value = whole.0; out_after = whole.1 }

pub overflow_add-calls : goal.overflow_add-calls
unfolding openings_turn
overflow_add-calls c =
    let a = c.args in
    let g = given_of c.args.given in
    let w = work c.args.q_evals.now c.args.eq_r.now c.args.k_rot_r.now c.args.eq_ub.now in
    omega (arith, openings-calls g a.turn a.out.now w _ c.in-Ok.ensures)

pub copy_elements-requires : goal.copy_elements-requires
unfolding openings_turn answer_of
copy_elements-requires c =
    let a = c.args in
    let g = given_of c.args.given in
    let w = work c.args.q_evals.now c.args.eq_r.now c.args.k_rot_r.now c.args.eq_ub.now in
    let whole = copy_asks g a.turn a.out.now w _ c.in-Ok.ensures (zero_by _ _ c.openings_number.ensures c.in_default.is) in
    record { n_in_bounds = whole.0; held = whole.1 }

pub returns : goal.returns
unfolding openings_turn answer_of
returns c =
    let a = c.args in
    let g = given_of c.args.given in
    let w = work c.args.q_evals.now c.args.eq_r.now c.args.k_rot_r.now c.args.eq_ub.now in
    let whole = openings_done g a.turn a.out.now w _ c.in-Ok.ensures (zero_by _ _ c.openings_number.ensures c.in_default.is) c.copy_elements.ensures in
    record { value = whole.0; out_after = whole.1 }
