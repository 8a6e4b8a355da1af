use Prim.Native.Nat.{◌*◌, ◌≤◌}
use Rattle.layout.specs.Walked.{Walked}
use Rattle.weights.proofs.ClaimCounts.{Counting}
use Rattle.weights.proofs.claims.claim_count.Given as goal

abbrev pub invariant-loop : goal.invariant-loop
invariant-loop l = (l.count ≤ 2 * l.counter) × (Walked l.l_skip l.n_stack l.first l.lists l.columns → Counting l.l_skip l.n_stack l.first l.lists l.counter l.count l.c)
