use mathlib.Core.Path.{ap}
use native.Mathlib.Omega.{arith}
use Rattle.plan_text.proofs.Runs.{turn, done}
use Rattle.plan_text.proofs.read.Goals as goal

pub loop-b-preserved : goal.loop-b-preserved
loop-b-preserved c =
    let s = c.step-now in
    let l = c.loop-b in
    let a = c.args in (
      omega (arith, s.auto.words),
      turn a.text.now l.words l.now l.b-index _ l.invariant.1 (omega arith) _ _ s.ensures.0 s.ensures.1,
    )

pub returns : goal.returns
returns c =
    let l = c.loop-b in
    let a = c.args in
    let e = done a.text.now l.words l.now l.b-index _ l.invariant.1 (omega arith) in
    (ap (λ s. s.reading) e, ap (λ s. s.words) e)
