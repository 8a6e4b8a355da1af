use Rattle.verifier.proofs.RowBits.{bits_start, upper_is}
use native.Mathlib.Omega.{arith}
use Rattle.verifier.proofs.column_weights.upper_weight.Goals as goal

pub eq_bits-weight-requires : goal.eq_bits-weight-requires
eq_bits-weight-requires c = (omega arith, omega arith, omega arith, bits_start _ _ _ _ c.from_word-one.ensures)

pub returns : goal.returns
returns c = upper_is _ _ _ _ _ c.low_bits-low.ensures c.eq_bits-weight.ensures
