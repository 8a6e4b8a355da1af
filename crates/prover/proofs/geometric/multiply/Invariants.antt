use Rattle.std.proofs.Common.{◌-◌, ◌*◌, ◌^◌}
use Rattle.field.specs.Element.{elem_of}
use Rattle.prover.proofs.ProductTurns.{Multiplied}
use Rattle.prover.proofs.geometric.multiply.Given as goal

abbrev pub invariant-loop-j : goal.invariant-loop-j
invariant-loop-j l = Multiplied (2 * 2 ^ l.l - 1) l.o (elem_of l.y) (elem_of l.k) l.e l.initial.out l.r l.j l.out
