use Rattle.std.proofs.Common.{◌-◌, ◌≤◌}
use Rattle.prover.specs.Written.{Written}
use Rattle.prover.proofs.TableBlocks.{gained}
use Rattle.prover.proofs.table_rows.table_rows.Given as goal

abbrev pub invariant-loop-b : goal.invariant-loop-b
invariant-loop-b l = (l.b ≤ l.blocks) × Written l.initial.acc 0 l.rows (gained l.q l.r l.start l.initial.acc l.l_skip l.lift l.rows l.at l.count l.b) l.acc

abbrev pub decreases-loop-b : goal.decreases-loop-b
decreases-loop-b l = l.blocks - l.b
