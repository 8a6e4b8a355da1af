use mathlib.Core.Path.{◌≡◌}
use mathlib.Core.List.{List}
use Prim.Native.Nat.{ℕ, ◌*◌, ◌≤◌}
use Rattle.field.specs.Slice.{elem_at}
use Rattle.layout.specs.Columns.{column_at}
use Rattle.weights.specs.RunOf.{run_of}
use Rattle.verifier.proofs.ClaimTurns.{Weighing}
use Rattle.verifier.proofs.claims.weighted_claims.Given as goal

abbrev pub invariant-loop-k : goal.invariant-loop-k
invariant-loop-k l = (l._k ≤ l.shape.columns) × (l.i ≤ 2 * l._k) × (l.c ≡ column_at l.asked.l_skip l.asked.n_stack l.shape.first l.asked.lists.now l._k) × ((point : List ℕ) → Weighing (run_of l.asked.l_skip l.asked.n_stack l.shape.first l.asked.lists.now point l.asked.lambda) (elem_at l.asked.claims.now) l._k l.i l.w)
