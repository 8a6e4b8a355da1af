use Rattle.std.proofs.Common.{◌≡◌, ◌-◌, ◌^◌, ◌≤◌}
use Rattle.field.specs.Element.{elem_of}
use Rattle.prover.specs.Written.{Written, elems_from}
use Rattle.prover.specs.Rotated.{rotated}
use Rattle.prover.proofs.elements.rotate.Given as goal

abbrev pub invariant-loop-x : goal.invariant-loop-x
invariant-loop-x l = (l.rows ≡ 2 ^ l.n) × ((l.x ≤ l.rows) × Written l.initial.k_rot l.at l.x (rotated (2 ^ l.n) (elems_from l.eq l.at) (elem_of l.a) (elem_of l.b)) l.k_rot)

abbrev pub decreases-loop-x : goal.decreases-loop-x
decreases-loop-x l = l.rows - l.x
