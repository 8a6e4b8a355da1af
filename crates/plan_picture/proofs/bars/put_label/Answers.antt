-- `plan_picture::bars::put_label` meets its contract.
use mathlib.Core.Path.{sym, ap, ◌∙◌}
use borrow.Author.Tests.{not-true, not-false}
use Rattle.text.specs.Template.{bytes_of}
use Rattle.text.proofs.Writings.{put_none}
use Rattle.plan_picture.specs.Slices.{roomy}
use Rattle.plan_picture.specs.Parts.{label_of}
use Rattle.plan_picture.proofs.Appending.{put_true, put_false}
use mathlib.Core.Bool.{not}
use Rattle.plan_picture.proofs.bars.put_label.Goals as goal

pub returns-then-not-is_roomy : goal.returns-then-not-is_roomy
unfolding label_of
returns-then-not-is_roomy c =
    let a = c.args in
    let t = c.tall in
    let e = c.is_roomy in
    put_false _ _ _ _ _ (ap (λ k. roomy a.part.frame.width k 14) (sym t.ensures) ∙ sym e.ensures ∙ not-true e.result (ap not c.if-not-is_roomy.true)) (put_none _)

pub returns : goal.returns
unfolding label_of bytes_of
returns c =
    let a = c.args in
    let t = c.tall in
    let e = c.is_roomy in
    let test = (ap not c.if-not-is_roomy.false) in
    let middle = c.middle in
    let base = c.label_base in
    let s = c.shade in
    let m = c.matrix in
    put_true _ _ _ _ _ (ap (λ k. roomy a.part.frame.width k 14) (sym t.ensures) ∙ sym e.ensures ∙ not-false e.result test)
    (rw (s.ensures, middle.ensures, base.ensures, m.ensures) at c.put_template.ensures)
