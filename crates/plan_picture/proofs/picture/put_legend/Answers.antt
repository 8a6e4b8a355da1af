-- `plan_picture::picture::put_legend` meets its contract.
use Rattle.text.specs.Template.{bytes_of}
use Rattle.plan_picture.specs.Picture.{legend_of}
use Rattle.plan_picture.proofs.picture.put_legend.Goals as goal

pub returns : goal.returns
unfolding legend_of bytes_of
returns c = c.put_template.ensures
