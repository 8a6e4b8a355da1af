-- `plan_picture::picture::put_drawing` meets its contract.
use Rattle.text.proofs.Writings.{put_both}
use Rattle.plan_picture.specs.Picture.{drawn_of}
use Rattle.plan_picture.proofs.picture.put_drawing.Goals as goal

pub returns : goal.returns
unfolding drawn_of
returns c =
    let two = put_both _ _ _ _ _ c.put_head.ensures (rw c.used_cells-used.ensures.0 at c.put_sentence.ensures) in
    let three = put_both _ _ _ _ _ two c.put_legend.ensures in
    let four = put_both _ _ _ _ _ three c.put_bars.ensures in
    put_both _ _ _ _ _ (put_both _ _ _ _ _ four c.put_slices.ensures) c.put_end.ensures
