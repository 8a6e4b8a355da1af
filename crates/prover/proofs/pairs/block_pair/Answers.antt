use Rattle.std.proofs.Common.{◌≡◌, arith}
use Rattle.layout.proofs.ColumnWalks.{columns_few, walk_start}
use Rattle.weights.proofs.PowerWalks.{power_start}
use Rattle.prover.proofs.LiveColumns.{column-live}
use Rattle.prover.proofs.ColumnBlocks.{points_are, points_few, table_asks}
use Rattle.prover.proofs.OwnWalk.{among, ready_known, paired_start, paired_end, walking_turn}
use Rattle.prover.proofs.pairs.block_pair.Goals as goal

pub loop-k-init : goal.loop-k-init
loop-k-init c = record {
  inside = omega arith;
  column = walk_start c.requires.open_round.placed.walked _ c.walk_first-c.ensures;
  power_is = power_start _ c.from_word-power.ensures;
  paired = paired_start _ _ _ _ _ _ _ _ _ _ _ _ c.from_word-one.ensures c.from_word-two.ensures;
  ready = λ log flag h. cc;
  near = omega arith;
  idle = λ i h o. absurd (omega arith);
}

pub prepare-requires : goal.prepare-requires
prepare-requires c = record { n_bound = points_few _ _ _ _ (points_are _ _ _ _ c.lifted-lift.ensures c.block_points-n.ensures); held = (λ z. (table_asks _ _ _ _ _ _ _ _ (column-live c.requires.open_round.placed c.requires.open_round.live_round _ (among c.loop-k-test.true c.requires.block_bound.1) c.loop-k.invariant.column) _ c.lifted-lift.ensures _ (points_are _ _ _ _ c.lifted-lift.ensures c.block_points-n.ensures) z).0); held_2 = (λ z. (table_asks _ _ _ _ _ _ _ _ (column-live c.requires.open_round.placed c.requires.open_round.live_round _ (among c.loop-k-test.true c.requires.block_bound.1) c.loop-k.invariant.column) _ c.lifted-lift.ensures _ (points_are _ _ _ _ c.lifted-lift.ensures c.block_points-n.ensures) z).1); canonical = c.requires.open_round.canonical; ready = λ e. ready_known c.requires.open_round.live_round _ _ _ (points_are _ _ _ _ c.lifted-lift.ensures c.block_points-n.ensures) (c.loop-k.invariant.ready _ _ (c.same_weights-known.ensures e)) }

pub column_pair-t-requires : goal.column_pair-t-requires
column_pair-t-requires c = record { live_column = (column-live c.requires.open_round.placed c.requires.open_round.live_round _ (among c.loop-k-test.true c.requires.block_bound.1) c.loop-k.invariant.column); n_value = points_are _ _ _ _ c.lifted-lift.ensures c.block_points-n.ensures; ready = c.prepare.ensures }

pub loop-k-preserved : goal.loop-k-preserved
loop-k-preserved c =
    walking_turn _ _ _ c.requires.open_round.placed c.requires.open_round.live_round c.requires.block_bound.1 c.loop-k.invariant c.loop-k-test.true c.square-step.ensures
    (points_are _ _ _ _ c.lifted-lift.ensures c.block_points-n.ensures) c.prepare.ensures c.column_pair-t.ensures c.load-weight.ensures
    c.add_term-a.ensures c.add_term-b.ensures c.mul-p.ensures
    (points_are _ _ _ _ c.lifted-lift.ensures c.block_points-later.ensures) c.reaching-next.ensures c.walk_next-c.ensures

pub returns : goal.returns
returns c =
    let done : c.loop-k.k ≡ c.args.reach = omega (arith, c.loop-k.invariant.inside, c.loop-k-test.false) in
    record { values = paired_end _ _ _ _ _ _ _ _ _ _ _ _ done c.loop-k.invariant.paired; reach_le_reach = (omega (arith, c.loop-k.invariant.near, done), λ i h o. c.loop-k.invariant.idle i h (omega (arith, done, o))) }

pub reaching-next-requires : goal.reaching-next-requires
reaching-next-requires c = omega (arith, columns_few c.requires.open_round.placed.walked, (among c.loop-k-test.true c.requires.block_bound.1))
