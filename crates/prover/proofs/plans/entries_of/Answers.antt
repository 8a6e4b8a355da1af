use Rattle.prover.proofs.SlotTurns.{entries_no, entries_yes}
use mathlib.Core.Path.{ap}
use mathlib.Core.Bool.{not}
use Rattle.prover.proofs.plans.entries_of.Goals as goal

pub returns-then-not-height_occurs : goal.returns-then-not-height_occurs
returns-then-not-height_occurs c = entries_no _ _ _ c.height_occurs.ensures (ap not c.if-not-height_occurs.true)

pub returns : goal.returns
returns c = entries_yes _ _ _ c.height_occurs.ensures (ap not c.if-not-height_occurs.false) c.requires c.lifted.ensures
