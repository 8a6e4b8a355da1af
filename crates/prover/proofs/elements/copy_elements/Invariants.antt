use Rattle.std.proofs.Common.{◌-◌, ◌≤◌}
use Rattle.field.specs.Slice.{elem_at}
use Rattle.prover.specs.Written.{Written}
use Rattle.prover.proofs.elements.copy_elements.Given as goal

abbrev pub invariant-loop-i : goal.invariant-loop-i
invariant-loop-i l = (l.i ≤ l.n) × Written l.initial.to 0 l.i (elem_at l.from) l.to

abbrev pub decreases-loop-i : goal.decreases-loop-i
decreases-loop-i l = l.n - l.i
