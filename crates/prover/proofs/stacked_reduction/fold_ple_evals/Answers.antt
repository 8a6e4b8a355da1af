use Rattle.std.proofs.Common.{ap, not, arith}
use Rattle.prover.specs.Given.{given_of, work}
use Rattle.prover.specs.Turns.{uni_turn}
use Rattle.prover.proofs.UniCalls.{facts, uni_asks, uni_calls, uni_refused, words_stop, words_bad, ple_asks, scale_asks, uni_done}
use Rattle.prover.proofs.stacked_reduction.fold_ple_evals.Goals as goal

pub returns-in-Err : goal.returns-in-Err
unfolding uni_turn
returns-in-Err c =
    let a = c.args in
    let g = given_of c.args.given in
    let w = work c.args.q_evals.now c.args.eq_r.now c.args.k_rot_r.now c.args.eq_ub.now in
    let whole = uni_refused g a.turn a.matrices.now a.u_0 w c.in-Err.ensures c.refused.ensures in
    record { value = whole.0; eq_ub_after = whole.1 }

pub uni_number-requires : goal.uni_number-requires
unfolding uni_turn
uni_number-requires c =
    let a = c.args in
    let g = given_of c.args.given in
    let w = work c.args.q_evals.now c.args.eq_r.now c.args.k_rot_r.now c.args.eq_ub.now in
    uni_asks g a.turn a.matrices.now a.u_0 w _ c.in-Ok.ensures

pub returns-in-Err-uni_number : goal.returns-in-Err-uni_number
unfolding uni_turn
returns-in-Err-uni_number c =
    let a = c.args in
    let g = given_of c.args.given in
    let w = work c.args.q_evals.now c.args.eq_r.now c.args.k_rot_r.now c.args.eq_ub.now in
    let whole = words_stop g a.turn a.matrices.now a.u_0 w _ c.in-Ok.ensures _ c.uni_number.ensures c.in-Err-uni_number.is c.refused-in-Err-uni_number.ensures in
    record { value = whole.0; eq_ub_after = whole.1 }

pub overflow_add-calls : goal.overflow_add-calls
unfolding uni_turn
overflow_add-calls c =
    let a = c.args in
    let g = given_of c.args.given in
    let w = work c.args.q_evals.now c.args.eq_r.now c.args.k_rot_r.now c.args.eq_ub.now in
    omega (arith, uni_calls g a.turn a.matrices.now a.u_0 w _ c.in-Ok.ensures)

pub overflow_shl-plan : goal.overflow_shl-plan
unfolding uni_turn
overflow_shl-plan c =
    let a = c.args in
    let g = given_of c.args.given in
    let w = work c.args.q_evals.now c.args.eq_r.now c.args.k_rot_r.now c.args.eq_ub.now in
    omega (arith, (facts g a.turn a.matrices.now a.u_0 w _ c.in-Ok.ensures).stack_few)

pub fold_ple_evals-requires : goal.fold_ple_evals-requires
unfolding uni_turn
fold_ple_evals-requires c =
    let a = c.args in
    let g = given_of c.args.given in
    let w = work c.args.q_evals.now c.args.eq_r.now c.args.k_rot_r.now c.args.eq_ub.now in
    let whole = ple_asks g a.turn a.matrices.now a.u_0 w _ c.in-Ok.ensures _ c.uni_number.ensures c.in_default.is in
    record { l_skip_bound = whole.0; q_len = whole.1.0; out_len = whole.1.1 }

pub returns-then-not-fold_ple_evals : goal.returns-then-not-fold_ple_evals
unfolding uni_turn
returns-then-not-fold_ple_evals c =
    let a = c.args in
    let g = given_of c.args.given in
    let w = work c.args.q_evals.now c.args.eq_r.now c.args.k_rot_r.now c.args.eq_ub.now in
    let whole = words_bad g a.turn a.matrices.now a.u_0 w _ c.in-Ok.ensures _ c.uni_number.ensures c.in_default.is c.fold_ple_evals.ensures (ap not c.if-not-fold_ple_evals.true) c.refused-then-not-fold_ple_evals.ensures in
    record { value = whole.0; eq_ub_after = whole.1 }

pub scale_tables-requires : goal.scale_tables-requires
unfolding uni_turn
scale_tables-requires c =
    let a = c.args in
    let g = given_of c.args.given in
    let w = work c.args.q_evals.now c.args.eq_r.now c.args.k_rot_r.now c.args.eq_ub.now in
    let whole = scale_asks g a.turn a.matrices.now a.u_0 w _ c.in-Ok.ensures _ c.uni_number.ensures c.in_default.is c.fold_ple_evals.ensures (ap not c.if-not-fold_ple_evals.false) in
    record {
      l_skip_bound = whole.0;
      slots = whole.1.0;
      eq_len = whole.1.1.0;
      k_rot_len = whole.1.1.1.0;
      eq_value = whole.1.1.1.1.0;
      r_len = whole.1.1.1.1.1.0;
      r_value = whole.1.1.1.1.1.1;
    }

pub returns : goal.returns
unfolding uni_turn
returns c =
    let a = c.args in
    let g = given_of c.args.given in
    let w = work c.args.q_evals.now c.args.eq_r.now c.args.k_rot_r.now c.args.eq_ub.now in
    let whole = uni_done g a.turn a.matrices.now a.u_0 w _ c.in-Ok.ensures _ c.uni_number.ensures c.in_default.is c.fold_ple_evals.ensures (ap not c.if-not-fold_ple_evals.false) (c.scale_tables.ensures.by_index _ _) (c.scale_tables.ensures.by_index_2 _ _) in
    record { value = whole.0; eq_ub_after = whole.1 }
