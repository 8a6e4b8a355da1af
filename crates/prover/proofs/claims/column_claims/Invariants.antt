use Rattle.std.proofs.Common.{◌≡◌, ℕ, Some, ◌≤◌, length}
use Rattle.layout.specs.Columns.{column_at}
use Rattle.prover.specs.KernelTables.{OrderKernels}
use Rattle.prover.proofs.ClaimWalk.{Claimed}
use Rattle.prover.proofs.claims.column_claims.Given as goal

abbrev pub invariant-loop-k : goal.invariant-loop-k
invariant-loop-k l =
    (l._k ≤ l.made.columns) × (length l.acc ≡ 4096) × (length l.plain ≡ 4096) × (length l.rotated ≡ 4096) × (l.c ≡ column_at l.l_skip l.n_stack l.made.first l.lists l._k) × ((o : ℕ) → l.order ≡ Some o → OrderKernels l.l_skip o l.r l.plain l.rotated) × Claimed l.l_skip l.n_stack l.made.first l.lists l.r l.matrices l.initial.out l._k l.i l.out
