use mathlib.Core.Path.{◌∙◌, ap}
use Rattle.field.specs.Element.{F, words_of}
use Rattle.tables.specs.OnSlices.{eq_mle_of, rot_cube_of}
use Rattle.tables.specs.Points.{coordinates}
use Rattle.tables.specs.RotCube.{rot_cube}
use Rattle.tables.specs.EqMle.{eq_mle}
use Rattle.tables.proofs.poly_common.eval_eq_rot_cube.Goals as goal

pub returns : goal.returns
unfolding eq_mle_of rot_cube_of
returns c = record { eq = c.eq_rot_cube_from.ensures.eq ∙ ap (λ m. words_of (eq_mle F (coordinates c.args.x.now 0 m) (coordinates c.args.y.now 0 m))) c.shared_count-m.ensures; rot = c.eq_rot_cube_from.ensures.rot ∙ ap (λ m. words_of (rot_cube F (coordinates c.args.x.now 0 m) (coordinates c.args.y.now 0 m))) c.shared_count-m.ensures }
