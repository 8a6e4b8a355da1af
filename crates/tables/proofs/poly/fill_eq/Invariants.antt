use Rattle.field.specs.Slice.{elem_at}
use Rattle.tables.specs.FromLast.{FromLast}
use Rattle.tables.proofs.poly.fill_eq.Given as goal

abbrev pub invariant-loop-i : goal.invariant-loop-i
invariant-loop-i l = FromLast (elem_at l.initial.out 0) l.x l.m l.i l.half l.out
