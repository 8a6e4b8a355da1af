use native.Mathlib.Omega.{arith}
use Rattle.algebra.specs.Zmod.{class, zmul}
use Rattle.field.proofs.word.halve.Goals as goal

pub returns : goal.returns
unfolding zmul class
returns c = omega arith
