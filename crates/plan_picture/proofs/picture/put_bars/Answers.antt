use Rattle.plan_picture.proofs.Appending.{turn_start, turn_next}
use native.Mathlib.Omega.{arith}
use Rattle.plan_picture.proofs.picture.put_bars.Goals as goal

pub loop-k-init : goal.loop-k-init
loop-k-init c = (omega arith, turn_start _ _)

pub loop-k-preserved : goal.loop-k-preserved
loop-k-preserved c =
    let l = c.loop-k in
    let b = c.bar in
    (omega arith, turn_next _ _ l.k _ _ l.invariant.1 b.ensures)
