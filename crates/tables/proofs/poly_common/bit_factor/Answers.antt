use Rattle.tables.proofs.BitFactors.{bit-off, bit_on}
use Rattle.tables.proofs.poly_common.bit_factor.Goals as goal

pub returns-then-bit-eq0 : goal.returns-then-bit-eq0
returns-then-bit-eq0 c = bit-off _ _ c.if-bit-eq0.true c.from_word-one.ensures c.sub.ensures

pub returns : goal.returns
returns c = bit_on _ _ c.if-bit-eq0.false c.canonical.ensures
