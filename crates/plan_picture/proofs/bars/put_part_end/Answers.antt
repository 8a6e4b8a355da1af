-- `plan_picture::bars::put_part_end` meets its contract.
use Rattle.text.specs.Template.{bytes_of}
use Rattle.plan_picture.proofs.bars.put_part_end.Goals as goal

pub returns : goal.returns
unfolding bytes_of
returns c = c.put.ensures
