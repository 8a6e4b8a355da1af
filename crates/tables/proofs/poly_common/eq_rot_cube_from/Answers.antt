use mathlib.Core.Path.{◌∙◌, sym}
use Rattle.tables.proofs.KernelLoops.{eq_factor_words}
use Rattle.tables.proofs.PointLaws.{coordinates-length, coordinates_front, coordinates_end, eq_none, rot_none, eq_front, rot_front}
use Rattle.tables.proofs.poly_common.eq_rot_cube_from.Goals as goal

pub loop-j-init : goal.loop-j-init
loop-j-init c =
    (eq_none (coordinates_end _ _ _) (coordinates_end _ _ _) c.from_word-eq.ensures, rot_none (coordinates_end _ _ _) (coordinates_end _ _ _) c.from_word-rot.ensures)

pub loop-j-preserved : goal.loop-j-preserved
loop-j-preserved c =
    let old = c.loop-j.invariant in
    let front = coordinates_front c.args.x.now c.args.i c.args.m c.loop-j.j c.loop-j-test.true c.loop-j.auto.j in
    let front' = coordinates_front c.args.y.now c.args.i c.args.m c.loop-j.j c.loop-j-test.true c.loop-j.auto.j in
    let factor = eq_factor_words _ _ c.load-a.ensures c.load-b.ensures c.eq_factor.ensures in (
      eq_front _ _ front front' factor old.0 c.mul.ensures,
      rot_front _ _ front front' (coordinates-length _ _ _ ∙ sym (coordinates-length _ _ _)) c.load-a.ensures c.load-b.ensures old.0 old.1 c.rot_step.ensures,
    )
