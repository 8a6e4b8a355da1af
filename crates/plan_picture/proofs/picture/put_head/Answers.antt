-- `plan_picture::picture::put_head` meets its contract.
use Rattle.text.specs.Template.{bytes_of}
use Rattle.plan_picture.specs.Picture.{opening_tags}
use Rattle.plan_picture.proofs.picture.put_head.Goals as goal

pub returns : goal.returns
unfolding opening_tags bytes_of
returns c = rw c.picture_width-w.ensures at c.put_template.ensures
