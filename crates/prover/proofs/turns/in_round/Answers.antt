use Rattle.std.proofs.Common.{refl, arith, le-leb}
use borrow.Author.Tests.{lt-leb}
use Rattle.field.proofs.FourWords.{and_skip, and_stop}
use Rattle.prover.specs.Turns.{in_round}
use Rattle.prover.proofs.turns.in_round.Goals as goal

pub returns-then-round-eq0 : goal.returns-then-round-eq0
unfolding in_round
returns-then-round-eq0 c = and_stop _ _ (lt-leb 1 c.args.round (omega arith))

pub returns-then-n_stack-round : goal.returns-then-n_stack-round
unfolding in_round
returns-then-n_stack-round c = and_skip _ _ (le-leb 1 c.args.round (omega arith)) (and_stop _ _ (lt-leb _ _ c.if-n_stack-round.true))

pub returns : goal.returns
unfolding in_round
returns c = and_skip _ _ (le-leb 1 c.args.round (omega arith)) (and_skip _ _ (le-leb _ _ c.if-n_stack-round.false) refl)
