use Rattle.prover.proofs.ZeroScan.{zeros_start, zeros_bad, zeros-more}
use Rattle.prover.proofs.sumcheck.zeros.Goals.{then-x-ne0, else-x-ne0}
use Rattle.prover.proofs.sumcheck.zeros.Goals as goal

pub loop-x-init : goal.loop-x-init
loop-x-init c = zeros_start c.args.xs.now _

pub loop-x-preserved : goal.loop-x-preserved
loop-x-preserved c = elim c.if-x-ne0.branch [ then-x-ne0 w ↦ zeros_bad c.args.xs.now _ w.ok-is | else-x-ne0 w ↦ zeros-more c.args.xs.now _ c.loop-x.invariant w.if-x-ne0.false w.ok-is ]
