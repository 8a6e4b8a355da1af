use Rattle.std.proofs.Common.{◌-◌}
use Rattle.prover.proofs.ShortRows.{Adding}
use Rattle.prover.proofs.rows.short_row.Given as goal

abbrev pub invariant-loop-i : goal.invariant-loop-i
invariant-loop-i l = Adding l.q l.at l.k l.n l.i l.s0 l.s1 l.s2 l.s3

abbrev pub decreases-loop-i : goal.decreases-loop-i
decreases-loop-i l = l.n - l.i
