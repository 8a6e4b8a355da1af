-- `plan_picture::fields::Part::tall` meets its contract.
use Rattle.plan_picture.proofs.Scales.{rows-small}
use native.Mathlib.Omega.{arith}
use Rattle.plan_picture.proofs.fields.Part.tall.Goals as goal

pub tall-requires : goal.tall-requires
tall-requires c = let a = c.args in omega (arith, c.row-first.ensures, c.rows.ensures, rows-small a.self.frame.l_skip a.self.y (omega arith))
