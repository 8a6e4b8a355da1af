use Rattle.std.proofs.Common.{rules}
use Rattle.field.specs.Slice.{words_at}
use Rattle.prover.proofs.elements.read.Goals as goal

pub returns : goal.returns
unfolding words_at
returns c = search rules
