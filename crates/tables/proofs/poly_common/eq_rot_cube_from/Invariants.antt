use mathlib.Core.Path.{◌≡◌}
use Prim.Native.Nat.{◌+◌, ◌-◌}
use Rattle.field.specs.Element.{F, words_of}
use Rattle.tables.specs.Points.{coordinates}
use Rattle.tables.specs.RotCube.{rot_cube}
use Rattle.tables.specs.EqMle.{eq_mle}
use Rattle.tables.proofs.poly_common.eq_rot_cube_from.Given as goal

abbrev pub invariant-loop-j : goal.invariant-loop-j
invariant-loop-j l = (l.eq ≡ words_of (eq_mle F (coordinates l.x (l.i + l.j) (l.m - l.j)) (coordinates l.y (l.i + l.j) (l.m - l.j)))) × (l.rot ≡ words_of (rot_cube F (coordinates l.x (l.i + l.j) (l.m - l.j)) (coordinates l.y (l.i + l.j) (l.m - l.j))))
