use Rattle.std.proofs.Common.{◌≡◌, ℕ, ◌<◌, ◌≤◌}
use Rattle.layout.specs.Columns.{column_at}
use Rattle.prover.specs.PointBlocks.{column_points}
use Rattle.prover.specs.RoundInputs.{block_of}
use Rattle.prover.proofs.OwnWalk.{Rounded}
use Rattle.prover.proofs.pairs.round_pair.Given as goal

abbrev pub invariant-loop-block : goal.invariant-loop-block
invariant-loop-block l = (l.block ≤ l.blocks) × (l.reach ≤ l.input.columns) × ((i : ℕ) → l.reach ≤ i → i < l.input.columns → (l.block ≡ 0 → ⊥) × (column_points l.input.l_skip l.input.round (column_at l.input.l_skip l.input.n_stack l.input.first l.input.lists.now i).log l.block ≡ 0)) × Rounded (block_of l.open l.input.columns) l.block l.one l.two
