use Rattle.std.proofs.Common.{refl, arith}
use Rattle.prover.proofs.Accumulators.{took}
use Rattle.prover.proofs.accumulator.Acc.take.Goals as goal

pub returns : goal.returns
returns c = took _ _ c.args.x (omega arith) c.requires.low c.wrapping_add_u64.ensures.value refl
