use Rattle.std.proofs.Common.{arith, eq-eqb, ne_eqb}
use Rattle.prover.specs.CallNumbers.{live}
use Rattle.prover.proofs.words.live_entries.Goals as goal

pub returns-then-e-eq0 : goal.returns-then-e-eq0
unfolding live
returns-then-e-eq0 c = simp (eq-eqb _ _ c.if-e-eq0.true)

pub returns-then-left-eq0 : goal.returns-then-left-eq0
unfolding live
returns-then-left-eq0 c = simp (ne_eqb _ _ c.if-e-eq0.false) (omega arith)

pub returns-else-left-eq0 : goal.returns-else-left-eq0
unfolding live
returns-else-left-eq0 c = simp (ne_eqb _ _ c.if-e-eq0.false) (omega arith)
