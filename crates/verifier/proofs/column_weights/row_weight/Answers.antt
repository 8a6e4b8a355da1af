use Rattle.verifier.proofs.RowBits.{upper_given, row_is}
use native.Mathlib.Omega.{arith}
use Rattle.verifier.proofs.column_weights.row_weight.Goals as goal

pub eq_bits-requires : goal.eq_bits-requires
eq_bits-requires c = (omega arith, omega arith, omega (arith, c.low_bits-low.ensures), upper_given c.args.asked.l_skip c.args.asked.n_stack c.args.c.log c.args.c.start _ _ _ c.args.asked.challenges.now c.lifted-lift.ensures c.low_bits-low.ensures c.spot_of-spot.ensures c.requires.2)

pub returns : goal.returns
returns c = row_is c.args.asked.l_skip c.args.asked.n_stack c.args.c.log c.args.c.start _ _ _ c.args.asked.challenges.now c.lifted-lift.ensures c.low_bits-low.ensures c.spot_of-spot.ensures c.eq_bits.ensures
