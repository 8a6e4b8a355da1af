use Rattle.field.specs.Element.{elem_of}
use Rattle.tables.proofs.KernelTableLoop.{Widened}
use Rattle.tables.proofs.poly.fill_kernels.Given as goal

abbrev pub invariant-loop-s : goal.invariant-loop-s
invariant-loop-s l = Widened l.l (elem_of l.u) l.s l.half l.out
