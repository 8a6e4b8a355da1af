use Rattle.verifier.proofs.RowBits.{bits_turn, bits_end}
use native.Mathlib.Omega.{arith}
use Rattle.verifier.proofs.column_weights.eq_bits.Goals as goal

pub loop-j-preserved : goal.loop-j-preserved
loop-j-preserved c = (omega arith, bits_turn _ _ _ _ _ c.loop-j-test.true c.loop-j.invariant.0 c.loop-j.invariant.1 c.load-u.ensures c.bit_factor-f.ensures c.mul-next.ensures)

pub returns : goal.returns
returns c = bits_end _ _ _ _ _ c.loop-j-test.false c.loop-j.invariant.1
