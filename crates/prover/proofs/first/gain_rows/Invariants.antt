use Rattle.std.proofs.Common.{◌-◌, ◌≤◌}
use Rattle.field.specs.Element.{◌⊕◌}
use Rattle.field.specs.Slice.{elem_at}
use Rattle.prover.specs.Written.{Written}
use Rattle.prover.proofs.first.gain_rows.Given as goal

abbrev pub invariant-loop-i : goal.invariant-loop-i
invariant-loop-i l = (l.i ≤ l.rows) × Written l.initial.to 0 l.i (λ k. elem_at l.initial.to k ⊕ elem_at l.from k) l.to

abbrev pub decreases-loop-i : goal.decreases-loop-i
decreases-loop-i l = l.rows - l.i
