-- `plan_picture::bars::put_bar_number` meets its contract.
use Rattle.text.specs.Template.{bytes_of}
use Rattle.plan_picture.specs.Parts.{bar_number_of}
use Rattle.plan_picture.proofs.bars.put_bar_number.Goals as goal

pub returns : goal.returns
unfolding bar_number_of bytes_of
returns c = rw c.bar_middle.ensures at c.put_template.ensures
