use Rattle.std.proofs.Common.{◌*◌}
use Rattle.field.specs.Slice.{elem_at}
use Rattle.prover.proofs.TransformStages.{Stage}
use Rattle.prover.proofs.transforms.transform.Given as goal

abbrev pub invariant-loop-i : goal.invariant-loop-i
invariant-loop-i l = Stage l.l (elem_at l.initial.a) (2 * l.i) l.a l.b
