use Rattle.std.proofs.Common.{sym, ◌∙◌}
use Rattle.layout.specs.Answers.{answer_of}
use Rattle.layout.proofs.Answering.{zero_by}
use Rattle.prover.specs.Given.{given_of}
use Rattle.prover.specs.Turns.{first_turn}
use Rattle.prover.proofs.MadeCalls.{first_refused, first_skip, first_plan, first_calls, first_stops, first_asks, first_done}
use Rattle.prover.proofs.stacked_reduction.batch_sumcheck_uni_round0_poly.Goals as goal

pub returns-in-Err : goal.returns-in-Err
unfolding first_turn
returns-in-Err c =
    let a = c.args in
    let g = given_of c.args.given in
    let whole = first_refused g a.turn a.matrices.now a.out.now c.in-Err.ensures c.refused.ensures in
    record { value = whole.0; out_after = whole.1 }

pub coefficient_words-asked-requires : goal.coefficient_words-asked-requires
unfolding first_turn
coefficient_words-asked-requires c =
    let a = c.args in
    let g = given_of c.args.given in
    first_skip g a.turn a.matrices.now a.out.now _ c.in-Ok.ensures

pub made_number-requires : goal.made_number-requires
unfolding first_turn
made_number-requires c =
    let a = c.args in
    let g = given_of c.args.given in
    first_plan g a.turn a.matrices.now a.out.now _ c.in-Ok.ensures

pub returns-in-Err-made_number : goal.returns-in-Err-made_number
unfolding first_turn
returns-in-Err-made_number c =
    let a = c.args in
    let g = given_of c.args.given in
    let whole = first_stops g a.turn a.matrices.now a.out.now _ c.in-Ok.ensures c.coefficient_words-asked.ensures (sym c.made_number.ensures ∙ c.in-Err-made_number.is) c.refused-in-Err-made_number.ensures in
    record { value = whole.0; out_after = whole.1 }

pub first_polynomial-requires : goal.first_polynomial-requires
unfolding first_turn answer_of
first_polynomial-requires c =
    let a = c.args in
    let g = given_of c.args.given in
    let whole = first_asks g a.turn a.matrices.now a.out.now _ c.in-Ok.ensures c.coefficient_words-asked.ensures (zero_by _ _ c.made_number.ensures c.in_default.is) in
    record { placed = whole.0; r_len = whole.1.0; r_value = whole.1.1.0; canonical = whole.1.1.1.0; matrices_len = whole.1.1.1.1.0; out_len = whole.1.1.1.1.1 }

pub one_more-requires : goal.one_more-requires
unfolding first_turn
one_more-requires c =
    let a = c.args in
    let g = given_of c.args.given in
    first_calls g a.turn a.matrices.now a.out.now _ c.in-Ok.ensures

pub returns : goal.returns
unfolding first_turn answer_of
returns c =
    let a = c.args in
    let g = given_of c.args.given in
    let whole = first_done g a.turn a.matrices.now a.out.now _ c.in-Ok.ensures c.coefficient_words-asked.ensures (zero_by _ _ c.made_number.ensures c.in_default.is) c.first_polynomial.ensures c.one_more.ensures in
    record { value = whole.0; out_after = whole.1 }
