use native.Mathlib.Omega.{arith}
use Rattle.field.proofs.Slices.{scan_start, scan_bad, scan_fine}
use Rattle.field.proofs.slice.canonical.Goals.{then-x-ge-P, else-x-ge-P}
use Rattle.field.proofs.slice.canonical.Goals as goal

pub loop-x-init : goal.loop-x-init
loop-x-init c = scan_start c.args.xs.now

pub loop-x-preserved : goal.loop-x-preserved
loop-x-preserved c =
    elim c.if-x-ge-P.branch [ then-x-ge-P w ↦ scan_bad _ _ _ (omega arith) c.loop-x.invariant w.if-x-ge-P.true w.ok-is | else-x-ge-P w ↦ scan_fine _ _ _ (omega arith) c.loop-x.invariant w.if-x-ge-P.false w.ok-is ]
