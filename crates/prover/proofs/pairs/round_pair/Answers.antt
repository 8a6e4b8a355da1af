use Rattle.std.proofs.Common.{le_refl, arith}
use Rattle.field.proofs.Elements.{canonical_words_lem}
use Rattle.prover.proofs.OwnWalk.{blocks-some, blocks_enough, blocks_few, reached_values, idle_next, rounded_start, rounded_turn, round_values}
use Rattle.prover.proofs.pairs.round_pair.Goals as goal

pub loop-block-init : goal.loop-block-init
loop-block-init c = (omega arith, le_refl _, (λ i h o. absurd (omega arith)), rounded_start _ c.from_word-one.ensures c.from_word-two.ensures)

pub block_pair-t-requires : goal.block_pair-t-requires
block_pair-t-requires c = record { open_round = record { placed = c.requires.placed; live_round = c.requires.live_round; canonical = canonical_words_lem _ c.canonical-l.ensures }; block_bound = (blocks_few _ _ c.requires.placed.stack c.loop-block-test.true, c.loop-block.invariant.1) }

pub loop-block-preserved : goal.loop-block-preserved
loop-block-preserved c = (
  omega (arith, c.loop-block-test.true),
  omega (arith, c.block_pair-t.ensures.reach_le_reach.0, c.loop-block.invariant.1),
  idle_next _ _ _ _ _ _ c.block_pair-t.ensures.reach_le_reach.1 c.loop-block.invariant.2,
  rounded_turn _ c.loop-block.invariant.3 (reached_values _ _ _ _ _ _ _ _ _ _ _ _ c.loop-block.invariant.1 c.loop-block.invariant.2 c.block_pair-t.ensures.values) c.add-a.ensures c.add-b.ensures,
)

pub returns : goal.returns
returns c =
    λ point. round_values _ _ point c.requires.placed c.requires.live_round (blocks-some _ _ c.requires.placed.stack) (blocks_enough _ _ c.requires.placed.stack) c.canonical-l.ensures c.loop-block.invariant.0 c.loop-block-test.false c.loop-block.invariant.3
