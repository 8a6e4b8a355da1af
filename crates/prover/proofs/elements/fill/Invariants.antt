use Rattle.std.proofs.Common.{◌-◌, ◌≤◌}
use Rattle.field.specs.Element.{elem_of}
use Rattle.prover.specs.Written.{Written}
use Rattle.prover.proofs.elements.fill.Given as goal

abbrev pub invariant-loop-k : goal.invariant-loop-k
invariant-loop-k l = (l.k ≤ l.n) × Written l.initial.t l.at l.k (λ i. elem_of l.x) l.t

abbrev pub decreases-loop-k : goal.decreases-loop-k
decreases-loop-k l = l.n - l.k
