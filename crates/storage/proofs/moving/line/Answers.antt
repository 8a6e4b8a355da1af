use native.Mathlib.Omega.{arith}
use lib.ListN.{length-set}
use Rattle.storage.proofs.Lines.{line_turn, line_end}
use Rattle.storage.proofs.moving.line.Goals as goal

pub loop-i-preserved : goal.loop-i-preserved
loop-i-preserved c = (omega arith, simp length-set c.loop-i.invariant.1, line_turn _ _ _ _ _ _ _ _ (rw c.loop-i.invariant.1 (c.requires.1 _ c.loop-i-test.true)) c.loop-i.invariant.2)

pub returns : goal.returns
returns c = line_end _ _ _ _ _ _ _ _ _ c.loop-i.invariant.0 c.loop-i-test.false c.loop-i.invariant.2
