use Rattle.std.proofs.Common.{◌-◌}
use Rattle.field.specs.Slice.{elem_at}
use Rattle.prover.specs.Transforms.{pass_f}
use Rattle.prover.proofs.PassTurns.{Made}
use Rattle.prover.proofs.transforms.pass.Given as goal

abbrev pub invariant-loop-i : goal.invariant-loop-i
invariant-loop-i l = Made l.l l.s (pass_f l.l l.s (elem_at l.a)) l.i l.b

abbrev pub decreases-loop-i : goal.decreases-loop-i
decreases-loop-i l = l.pairs - l.i
