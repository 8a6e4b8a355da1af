-- `plan_picture::fields::Part::last_row` meets its contract.
use Rattle.plan_picture.proofs.Scales.{rows-some, rows-small}
use native.Mathlib.Omega.{arith}
use Rattle.plan_picture.proofs.fields.Part.last_row.Goals as goal

pub overflow_add-result : goal.overflow_add-result
overflow_add-result c = let a = c.args in omega (arith, c.row.ensures, c.rows.ensures, rows-small a.self.frame.l_skip a.self.y (omega arith))

pub overflow_sub-result : goal.overflow_sub-result
overflow_sub-result c = let a = c.args in omega (arith, c.rows.ensures, rows-some a.self.frame.l_skip a.self.y)
