use Rattle.field.specs.Element.{elem_of}
use Rattle.tables.proofs.Spreading.{Spreading}
use Rattle.tables.proofs.poly.expand.Given as goal

abbrev pub invariant-loop-j : goal.invariant-loop-j
invariant-loop-j l = Spreading l.initial.out l.half (elem_of l.x) l.j l.out
