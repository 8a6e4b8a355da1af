use Rattle.prover.specs.RoundValues.{one_or_two}
use Rattle.prover.proofs.RoundTurns.{bit-zero_one, bit-zero_two, bit_one_one, bit_one_two}
use Rattle.prover.proofs.sumcheck.bit_round_poly_evals.Goals as goal

pub returns-then-bit-eq0 : goal.returns-then-bit-eq0
unfolding one_or_two
returns-then-bit-eq0 c = record { at_one = bit-zero_one _ _ c.if-bit-eq0.true; at_two = bit-zero_two _ _ c.if-bit-eq0.true c.point-line.ensures c.neg-two.ensures }

pub returns : goal.returns
unfolding one_or_two
returns c = record { at_one = bit_one_one _ _ c.if-bit-eq0.false c.point-hi.ensures; at_two = bit_one_two _ _ c.if-bit-eq0.false c.point-line.ensures c.double-two.ensures }
