use Rattle.std.proofs.Common.{arith}
use Rattle.prover.proofs.ColumnBlocks.{long_lift, long-asks, long_is, empty_is, past_is, short-asks, short_is}
use Rattle.prover.proofs.PointWeights.{weights_own}
use Rattle.prover.proofs.columns.column_pair.Goals.{else-lift-round-via-then-lift-round+else-block-eq0, else-lift-round-via-else-lift-round}
use Rattle.prover.proofs.columns.column_pair.Goals as goal

pub long_pair-requires : goal.long_pair-requires
long_pair-requires c = record { n_bound = (long-asks _ _ _ _ _ _ _ _ c.requires.live_column _ c.lifted-lift.ensures _ c.requires.n_value c.if-n-ne0.true).0; held = (long-asks _ _ _ _ _ _ _ _ c.requires.live_column _ c.lifted-lift.ensures _ c.requires.n_value c.if-n-ne0.true).1; weights = weights_own c.requires.ready.at_one; weights_2 = weights_own c.requires.ready.at_two }

pub returns-then-n-ne0 : goal.returns-then-n-ne0
returns-then-n-ne0 c = long_is _ _ _ _ _ _ _ _ c.requires.live_column _ c.lifted-lift.ensures _ c.requires.n_value _ _ c.if-n-ne0.true c.requires.ready c.long_pair.ensures

pub short_pair-requires : goal.short_pair-requires
short_pair-requires c = short-asks _ _ _ _ _ _ _ _ c.requires.live_column _ c.lifted-lift.ensures 0 c.if-lift-round.true

pub returns-then-block-eq0 : goal.returns-then-block-eq0
returns-then-block-eq0 c = short_is _ _ _ _ _ _ _ _ c.requires.live_column _ c.lifted-lift.ensures _ _ _ c.if-lift-round.true c.if-block-eq0.true c.short_pair.ensures

pub returns : goal.returns
returns c =
    elim c.else-lift-round.branch [
      | else-lift-round-via-then-lift-round+else-block-eq0 w ↦ past_is _ _ _ _ _ _ _ _ c.requires.live_column _ c.lifted-lift.ensures _ _ _ w.if-lift-round.true w.if-block-eq0.false
      | else-lift-round-via-else-lift-round w ↦ empty_is _ _ _ _ _ _ _ _ c.requires.live_column _ c.lifted-lift.ensures _ c.requires.n_value _ _ c.if-n-ne0.false w.if-lift-round.false
    ]

pub overflow_sub-half : goal.overflow_sub-half
overflow_sub-half c = omega (arith, long_lift _ _ _ _ _ _ _ _ c.requires.live_column _ c.lifted-lift.ensures _ c.requires.n_value c.if-n-ne0.true)
