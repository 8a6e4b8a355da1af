-- `plan_picture::bars::put_stripes` meets its contract.
use borrow.Author.Tests.{lt-ltb, le-ltb}
use Rattle.text.specs.Template.{bytes_of}
use Rattle.text.proofs.Writings.{put_none}
use Rattle.layout.specs.Packed.{log_field}
use Rattle.plan_picture.specs.Parts.{stripes_of}
use Rattle.plan_picture.proofs.Appending.{put_true, put_false}
use native.Mathlib.Omega.{arith}
use Rattle.plan_picture.proofs.bars.put_stripes.Goals as goal

pub returns-then-l-log_height : goal.returns-then-l-log_height
unfolding stripes_of
returns-then-l-log_height c =
    let a = c.args in
    put_false _ _ _ _ _ (le-ltb (log_field a.part.y) a.part.frame.l_skip (omega (arith, c.log_height.ensures, c.if-l-log_height.true))) (put_none _)

pub returns : goal.returns
unfolding stripes_of bytes_of
returns c =
    let a = c.args in
    let log = c.log_height in
    let test = c.if-l-log_height.false in
    let t = c.tall in
    let left = c.left in
    let top = c.top in
    let wide = c.bar_width in
    put_true _ _ _ _ _ (lt-ltb (log_field a.part.y) a.part.frame.l_skip (omega (arith, log.ensures, test))) (rw (left.ensures, top.ensures, wide.ensures, t.ensures) at c.put_template.ensures)
