-- `plan_picture::bars::slice` meets its contract.
use Rattle.text.proofs.Writings.{put_both}
use Rattle.plan_picture.specs.Parts.{drawn_slice}
use Rattle.plan_picture.proofs.bars.slice.Goals as goal

pub returns : goal.returns
unfolding drawn_slice
returns c =
    let two = put_both _ _ _ _ _ c.put_part.ensures c.put_stripes.ensures in
    put_both _ _ _ _ _ (put_both _ _ _ _ _ two c.put_label.ensures) c.put_part_end.ensures
