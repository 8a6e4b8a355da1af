-- `runs::width_there` meets its contract. Assumes nothing.
use Rattle.layout.proofs.RunLaws.{there_yes, there_no}
use Rattle.layout.proofs.runs.width_there.Goals as goal

pub returns-then-i-list : goal.returns-then-i-list
returns-then-i-list c = there_yes _ _ c.if-i-list.true

pub returns : goal.returns
returns c = there_no _ _ c.if-i-list.false
