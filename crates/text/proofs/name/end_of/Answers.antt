use native.Mathlib.Omega.{arith}
use mathlib.Core.Path.{◌≡◌, sym, ◌∙◌}
use lib.ListN.{length}
use Rattle.text.proofs.Words.{at_space, past_letter, at_end}
use Rattle.text.proofs.name.end_of.Goals as goal

pub returns-then-names-i-eq32 : goal.returns-then-names-i-eq32
returns-then-names-i-eq32 c =
    let l = c.loop-i in
    (at_space c.args.names.now _ l.i l.invariant c.loop-i-test.true c.if-names-i-eq32.true, omega arith)

pub loop-i-preserved : goal.loop-i-preserved
loop-i-preserved c =
    let l = c.loop-i in
    past_letter c.args.names.now _ l.i l.invariant c.loop-i-test.true c.if-names-i-eq32.false

pub returns : goal.returns
returns c =
    let l = c.loop-i in
    let e : l.i ≡ length c.args.names.now = omega (arith, l.auto.i-end) in
    (sym e ∙ at_end c.args.names.now _ l.i l.invariant c.loop-i-test.false, omega arith)
