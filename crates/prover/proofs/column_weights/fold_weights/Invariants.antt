use Rattle.std.proofs.Common.{◌≡◌, ℕ, ◌≤◌, List, length}
use Rattle.layout.specs.Columns.{column_at}
use Rattle.prover.specs.Written.{Written}
use Rattle.prover.proofs.WeightWalk.{next}
use Rattle.prover.proofs.column_weights.fold_weights.Given as goal

abbrev pub invariant-loop-k : goal.invariant-loop-k
invariant-loop-k l = (l.k ≤ l.columns) × (length l.ub ≡ length l.initial.ub) × (l.c ≡ column_at l.l_skip l.n_stack l.first l.lists l.k) × ((point lambda q eq rot : List ℕ) → Written l.initial.ub 0 l.k (next l.l_skip l.n_stack l.first l.lists l.round l.u l.initial.ub point lambda q eq rot) l.ub)
