use Rattle.std.proofs.Common.{arith}
use Rattle.prover.specs.Given.{given_of, work}
use Rattle.prover.proofs.RoundPlans.{round_within}
use Rattle.prover.proofs.FoldCalls.{fold_refused, challenge_refused, fold_calls, facts, to, mle-asks, eq_asks, rot_asks, weights_ask, fold_done}
use Rattle.prover.proofs.stacked_reduction.fold_mle_evals.Goals as goal

pub round_plan-requires : goal.round_plan-requires
round_plan-requires c = round_within _ _ _ _ c.in_round-turned.ensures

pub returns-in-Err : goal.returns-in-Err
returns-in-Err c =
    let a = c.args in
    let g = given_of c.args.given in
    let w = work c.args.q_evals.now c.args.eq_r.now c.args.k_rot_r.now c.args.eq_ub.now in
    let whole = fold_refused g a.turn a.round a.u w c.in_round-turned.ensures c.in-Err.ensures c.refused.ensures in
    record { value = whole.0; eq_ub_after = whole.1 }

pub returns-then-not-canonical_four : goal.returns-then-not-canonical_four
returns-then-not-canonical_four c =
    let a = c.args in
    let g = given_of c.args.given in
    let w = work c.args.q_evals.now c.args.eq_r.now c.args.k_rot_r.now c.args.eq_ub.now in
    let whole = challenge_refused g a.turn a.round a.u w c.in_round-turned.ensures _ c.in-Ok.ensures c.canonical_four.ensures c.if-not-canonical_four.true c.refused-then-not-canonical_four.ensures in
    record { value = whole.0; eq_ub_after = whole.1 }

pub overflow_sub-n_stack : goal.overflow_sub-n_stack
overflow_sub-n_stack c =
    let a = c.args in
    let g = given_of c.args.given in
    let w = work c.args.q_evals.now c.args.eq_r.now c.args.k_rot_r.now c.args.eq_ub.now in
    to g a.turn a.round a.u w c.in_round-turned.ensures _ c.in-Ok.ensures c.canonical_four.ensures c.if-not-canonical_four.false

pub overflow_shl-plan : goal.overflow_shl-plan
overflow_shl-plan c =
    let a = c.args in
    let g = given_of c.args.given in
    let w = work c.args.q_evals.now c.args.eq_r.now c.args.k_rot_r.now c.args.eq_ub.now in
    omega (arith, (facts g a.turn a.round a.u w c.in_round-turned.ensures _ c.in-Ok.ensures c.canonical_four.ensures c.if-not-canonical_four.false).stack_few)

pub fold_mle_evals-requires : goal.fold_mle_evals-requires
fold_mle_evals-requires c =
    let a = c.args in
    let g = given_of c.args.given in
    let w = work c.args.q_evals.now c.args.eq_r.now c.args.k_rot_r.now c.args.eq_ub.now in
    let whole = mle-asks g a.turn a.round a.u w c.in_round-turned.ensures _ c.in-Ok.ensures c.canonical_four.ensures c.if-not-canonical_four.false in
    record { half_in_bounds = whole.0; canonical_from = whole.1.0; canonical = whole.1.1 }

pub fold_tables-requires : goal.fold_tables-requires
fold_tables-requires c =
    let a = c.args in
    let g = given_of c.args.given in
    let w = work c.args.q_evals.now c.args.eq_r.now c.args.k_rot_r.now c.args.eq_ub.now in
    let whole = eq_asks g a.turn a.round a.u w c.in_round-turned.ensures _ c.in-Ok.ensures c.canonical_four.ensures c.if-not-canonical_four.false in
    record { n_stack_bound = whole.0; slots = whole.1.0; t_len = whole.1.1.0; n_stack_value = whole.1.1.1.0; canonical = whole.1.1.1.1 }

pub fold_tables-requires-2 : goal.fold_tables-requires-2
fold_tables-requires-2 c =
    let a = c.args in
    let g = given_of c.args.given in
    let w = work c.args.q_evals.now c.args.eq_r.now c.args.k_rot_r.now c.args.eq_ub.now in
    let whole = rot_asks g a.turn a.round a.u w c.in_round-turned.ensures _ c.in-Ok.ensures c.canonical_four.ensures c.if-not-canonical_four.false in
    record { n_stack_bound = whole.0; slots = whole.1.0; t_len = whole.1.1.0; n_stack_value = whole.1.1.1.0; canonical = whole.1.1.1.1 }

pub fold_weights-requires : goal.fold_weights-requires
fold_weights-requires c =
    let a = c.args in
    let g = given_of c.args.given in
    let w = work c.args.q_evals.now c.args.eq_r.now c.args.k_rot_r.now c.args.eq_ub.now in
    let whole = weights_ask g a.turn a.round a.u w c.in_round-turned.ensures _ c.in-Ok.ensures c.canonical_four.ensures c.if-not-canonical_four.false in
    record { n_stack_bound = whole.0; walked = whole.1.0; ub_len = whole.1.1 }

pub one_more-requires : goal.one_more-requires
one_more-requires c =
    let a = c.args in
    let g = given_of c.args.given in
    let w = work c.args.q_evals.now c.args.eq_r.now c.args.k_rot_r.now c.args.eq_ub.now in
    fold_calls g a.turn a.round a.u w c.in_round-turned.ensures _ c.in-Ok.ensures c.canonical_four.ensures c.if-not-canonical_four.false

pub returns : goal.returns
returns c =
    let a = c.args in
    let g = given_of c.args.given in
    let w = work c.args.q_evals.now c.args.eq_r.now c.args.k_rot_r.now c.args.eq_ub.now in
    let whole = fold_done g a.turn a.round a.u w c.in_round-turned.ensures _ c.in-Ok.ensures c.canonical_four.ensures c.if-not-canonical_four.false c.fold_mle_evals.ensures c.fold_tables.ensures c.fold_tables-2.ensures (c.fold_weights.ensures _ _ _ _ _) c.one_more.ensures in
    record { value = whole.0; eq_ub_after = whole.1 }
