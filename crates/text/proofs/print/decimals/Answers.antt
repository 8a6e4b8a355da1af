use native.Mathlib.Omega.{arith}
use Rattle.text.specs.Printed.{decimal_of, filled}
use Rattle.text.proofs.Fills.{turn, done}
use Rattle.text.proofs.print.decimals.Goals as goal

pub loop-x-preserved : goal.loop-x-preserved
loop-x-preserved c =
    let l = c.loop-x in
    turn decimal_of c.args.xs.now (filled l.out l.to) l.x-index _ l.invariant (omega arith) _ c.decimal-to.ensures

pub returns : goal.returns
returns c =
    let l = c.loop-x in
    done decimal_of c.args.xs.now (filled l.out l.to) l.x-index _ l.invariant (omega arith)
