use mathlib.Core.Path.{ap, ◌∙◌, refl}
use native.Mathlib.Nat.{le_antisymm}
use native.Mathlib.Omega.{arith}
use Rattle.layout.specs.Placing.{matrix_start}
use Rattle.layout.proofs.Turns.{start_turn, after_asks, after_small}
use Rattle.layout.proofs.placing.matrix_start.Goals as goal

pub loop-k-init : goal.loop-k-init
unfolding matrix_start
loop-k-init c = (omega arith, omega arith, refl)

pub after-s-requires : goal.after-s-requires
after-s-requires c = after_asks _ _ c.args.first _ _ _ _ c.requires.0 (omega arith) refl c.loop-k.invariant.1

pub loop-k-preserved : goal.loop-k-preserved
loop-k-preserved c = (
  omega arith,
  after_small _ _ _ _ _ _ _ c.requires.0 (omega arith) refl c.loop-k.invariant.1 _ c.after-s.ensures,
  start_turn _ _ _ _ _ _ _ _ _ c.loop-k.invariant.2 refl refl c.after-s.ensures,
)

pub returns : goal.returns
returns c = c.loop-k.invariant.2 ∙ ap (matrix_start _ _ _ _) (le_antisymm c.loop-k.invariant.0 c.loop-k-test.false)
