-- `plan_picture::bars::put_bar` meets its contract.
use Rattle.text.specs.Template.{bytes_of}
use Rattle.plan_picture.specs.Parts.{bar_of}
use Rattle.plan_picture.proofs.bars.put_bar.Goals as goal

pub returns : goal.returns
unfolding bar_of bytes_of
returns c =
    let left = c.bar_left in
    let wide = c.bar_width in
    rw (left.ensures, wide.ensures) at c.put_template.ensures
