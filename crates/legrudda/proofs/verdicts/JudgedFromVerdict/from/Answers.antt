use Rattle.legrudda.proofs.ExportedLaws.{judged_is}
use Rattle.legrudda.proofs.verdicts.JudgedFromVerdict.from.Goals as goal

pub returns : goal.returns
returns c = judged_is c.args.verdict _ c.number.ensures
