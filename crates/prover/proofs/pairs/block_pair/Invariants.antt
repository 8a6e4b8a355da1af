use Rattle.prover.proofs.OwnWalk.{Walking}
use Rattle.prover.proofs.pairs.block_pair.Given as goal

abbrev pub invariant-loop-k : goal.invariant-loop-k
invariant-loop-k l = Walking l.l_skip l.input.n_stack l.input.first l.input.lists.now l.slots l.lambda l.round l.block l.reach l.input.q.now l.input.eq.now l.input.k_rot.now l.input.ub.now l.one l.two l.power l.weights.one l.weights.two l.made l.c l.next l.k
