-- `records::pack_log` meets its contract. Assumes nothing.
use mathlib.Core.Path.{refl}
use Rattle.layout.specs.Packed.{packed_log}
use Rattle.layout.proofs.records.pack_log.Goals as goal

pub returns : goal.returns
unfolding packed_log
returns c = refl
