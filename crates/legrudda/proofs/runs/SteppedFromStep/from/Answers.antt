use Rattle.legrudda.proofs.ExportedLaws.{stepped_is}
use Rattle.legrudda.proofs.runs.SteppedFromStep.from.Goals as goal

pub returns : goal.returns
returns c = stepped_is c.args.step _ c.number.ensures
