-- What a round's blocks are made of, and what the loop over a block's columns asks of it.
use Rattle.std.specs.Prelude.{ℕ}
use Rattle.field.specs.Canonical.{Canonical}
use Rattle.field.specs.Element.{Elem, elem_of}
use Rattle.prover.specs.declared.pairs.RoundInput.{RoundInput}
use Rattle.prover.specs.Live.{Placed, LiveRound}
use Rattle.prover.specs.PointBlocks.{block_sum, Idle}

pub record OpenRound (r : RoundInput) : Type 0 where
  pub placed : Placed r.l_skip r.n_stack r.first r.lists.now r.columns r.stacked
  pub live_round : LiveRound r.l_skip r.n_stack r.lists.now r.stacked r.slots.now r.round r.q.now r.eq.now r.k_rot.now
  pub canonical : Canonical r.lambda

-- block b of the first m columns
abbrev pub block_of : RoundInput → ℕ → ℕ → Elem → Elem
block_of r m b = block_sum r.l_skip r.n_stack r.first r.lists.now r.slots.now (elem_of r.lambda) r.round r.q.now r.eq.now r.k_rot.now r.ub.now m b

-- the columns from `far` to m that have no points in block b
abbrev pub idle_of : RoundInput → ℕ → ℕ → ℕ → Type 0
idle_of r b far m = Idle r.l_skip r.n_stack r.first r.lists.now r.round b far m
