use Rattle.std.proofs.Common.{refl, ◌∙◌, arith}
use Rattle.layout.proofs.ColumnWalks.{walk_start, walk_turn}
use Rattle.prover.proofs.Writing.{written_none}
use Rattle.prover.proofs.WeightWalk.{put-length, weights_turn, weights_end}
use Rattle.prover.proofs.column_weights.fold_weights.Goals as goal

pub loop-k-init : goal.loop-k-init
loop-k-init c = (omega arith, refl, walk_start c.requires.walked _ c.walk_first-c.ensures, λ point lambda q eq rot. written_none _ _ _)

pub loop-k-preserved : goal.loop-k-preserved
loop-k-preserved c = (
  omega arith,
  put-length _ _ _ c.store.ensures ∙ c.loop-k.invariant.1,
  walk_turn c.requires.walked _ _ _ c.loop-k-test.true c.loop-k.invariant.2 c.walk_next-c.ensures,
  λ point lambda q eq rot. weights_turn _ _ _ _ _ _ _ point lambda q eq rot _ _ (c.loop-k.invariant.3 point lambda q eq rot) c.loop-k-test.true c.requires.ub_len c.loop-k.invariant.2 c.load-weight.ensures c.next_weight-e.ensures c.store.ensures,
)

pub returns : goal.returns
returns c = λ point lambda q eq rot. weights_end _ _ _ _ _ _ _ point lambda q eq rot _ _ c.loop-k.invariant.0 c.loop-k-test.false (c.loop-k.invariant.3 point lambda q eq rot) c.requires.ub_len
