-- `runs::first_count` meets its contract. Assumes nothing.
use mathlib.Core.Path.{sym}
use native.Mathlib.Omega.{arith}
use lib.ListN.{get_or-eq_default}
use Rattle.layout.proofs.runs.first_count.Goals as goal

pub returns-then-counts-eq0 : goal.returns-then-counts-eq0
returns-then-counts-eq0 c = sym (get_or-eq_default c.args.counts.now 0 {n = 0} (omega arith))
