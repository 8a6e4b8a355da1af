use Rattle.prover.proofs.ClassTurns.{Classing}
use Rattle.prover.proofs.first.class_rows.Given as goal

abbrev pub invariant-loop-k : goal.invariant-loop-k
invariant-loop-k l = Classing l.source.l_skip l.source.n_stack l.source.first l.source.lists.now l.source.r.now l.source.matrices.now l.order l.source.columns l.step l.u l.f l.g l.power l.any l.c l._k
