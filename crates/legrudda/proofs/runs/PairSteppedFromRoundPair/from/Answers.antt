use Rattle.legrudda.proofs.ExportedLaws.{pair-stepped_is}
use Rattle.legrudda.proofs.runs.PairSteppedFromRoundPair.from.Goals as goal

pub returns : goal.returns
returns c = pair-stepped_is c.args.step _ c.number.ensures
