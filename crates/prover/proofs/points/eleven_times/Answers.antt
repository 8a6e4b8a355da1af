use Rattle.std.proofs.Common.{refl}
use Rattle.prover.specs.PointBlocks.{times_eleven}
use Rattle.prover.proofs.Numbers.{four_words}
use Rattle.prover.proofs.points.eleven_times.Goals as goal

pub returns : goal.returns
unfolding times_eleven
returns c = four_words c.mul.ensures c.mul-2.ensures c.mul-3.ensures refl
