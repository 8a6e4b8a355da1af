use native.Mathlib.Omega.{arith}
use Rattle.algebra.specs.Zmod.{class, zadd, zneg}
use Rattle.field.proofs.word.sub.Goals as goal

pub returns : goal.returns
unfolding zadd class zneg
returns c = omega arith
