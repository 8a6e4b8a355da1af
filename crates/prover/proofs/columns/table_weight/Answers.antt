use Rattle.weights.proofs.PowerWalks.{only_plain, with_rotated}
use Rattle.prover.proofs.columns.table_weight.Goals as goal

pub returns-then-weighing-eq0 : goal.returns-then-weighing-eq0
returns-then-weighing-eq0 c = only_plain _ _ _ c.if-weighing-eq0.true c.load-plain.ensures

pub returns : goal.returns
returns c = with_rotated _ _ _ _ c.if-weighing-eq0.false c.load-plain.ensures c.load-rotated.ensures c.mul-x.ensures c.add.ensures
