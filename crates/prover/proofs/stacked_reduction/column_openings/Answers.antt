use Rattle.std.proofs.Common.{sym, ◌∙◌, arith}
use Rattle.layout.specs.Answers.{answer_of}
use Rattle.layout.proofs.Answering.{zero_by}
use Rattle.prover.specs.Given.{given_of}
use Rattle.prover.proofs.Refusing.{error_is}
use Rattle.prover.proofs.MadeCalls.{claims-refused, claims-plan, claims_few, claims_stop, claims_ask, claims_done}
use Rattle.prover.proofs.stacked_reduction.column_openings.Goals as goal

pub returns-in_err-plan : goal.returns-in_err-plan
returns-in_err-plan c =
    let a = c.args in
    let g = given_of c.args.given in
    let whole = claims-refused g a.matrices.now a.out.now c.in_err-plan.ensures (error_is _ c.from_residual.ensures.1) in
    record { value = whole.0; out_after = whole.1 }

pub overflow_mul-claims : goal.overflow_mul-claims
overflow_mul-claims c =
    let a = c.args in
    let g = given_of c.args.given in
    omega (arith, claims_few g a.matrices.now a.out.now _ c.in_ok-plan.ensures c.claim_count-claims.ensures)

pub made_number-requires : goal.made_number-requires
made_number-requires c =
    let a = c.args in
    let g = given_of c.args.given in
    claims-plan g a.matrices.now a.out.now _ c.in_ok-plan.ensures

pub returns-in_err-made_number : goal.returns-in_err-made_number
returns-in_err-made_number c =
    let a = c.args in
    let g = given_of c.args.given in
    let whole = claims_stop g a.matrices.now a.out.now _ c.in_ok-plan.ensures c.claim_count-claims.ensures (sym c.made_number.ensures ∙ c.in_err-made_number.was) (error_is _ c.from_residual-in_err-made_number.ensures.1) in
    record { value = whole.0; out_after = whole.1 }

pub column_claims-requires : goal.column_claims-requires
unfolding answer_of
column_claims-requires c =
    let a = c.args in
    let g = given_of c.args.given in
    let whole = claims_ask g a.matrices.now a.out.now _ c.in_ok-plan.ensures c.claim_count-claims.ensures (zero_by _ _ c.made_number.ensures c.in_ok-made_number.was) in
    record { placed = whole.0; r_len = whole.1.0; r_value = whole.1.1.0; matrices_len = whole.1.1.1.0; by_index = whole.1.1.1.1 }

pub returns : goal.returns
unfolding answer_of
returns c =
    let a = c.args in
    let g = given_of c.args.given in
    let whole = claims_done g a.matrices.now a.out.now _ c.in_ok-plan.ensures c.claim_count-claims.ensures (zero_by _ _ c.made_number.ensures c.in_ok-made_number.was) c.column_claims.ensures in
    record { value = whole.0; out_after = whole.1 }
