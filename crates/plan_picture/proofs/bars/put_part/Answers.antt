-- `plan_picture::bars::put_part` meets its contract.
use mathlib.Core.Path.{ap, ◌∙◌}
use Rattle.text.specs.Template.{bytes_of}
use Rattle.plan_picture.specs.Slices.{edge_of}
use Rattle.plan_picture.specs.Parts.{part_of}
use Rattle.plan_picture.proofs.bars.put_part.Goals as goal

pub returns : goal.returns
unfolding part_of bytes_of
returns c =
    let t = c.tall-tall in
    let e = c.edge in
    let last = c.last_row in
    let left = c.left in
    let top = c.top in
    let wide = c.bar_width in
    let m = c.matrix in
    let j = c.column in
    let h = c.trace_height in
    let s = c.stack_column in
    let r = c.row in
    let d = c.colour in
    rw (m.ensures, j.ensures, h.ensures, s.ensures, r.ensures, last.ensures, d.ensures, e.ensures ∙ ap (edge_of _) t.ensures, left.ensures, top.ensures, wide.ensures, t.ensures) at
    c.put_template.ensures
