use mathlib.Core.Path.{refl, ap, ◌∙◌}
use native.Mathlib.Nat.{le_antisymm}
use native.Mathlib.Omega.{arith}
use Rattle.layout.specs.Triples.{columns_before}
use Rattle.layout.proofs.Turns.{total_turn}
use Rattle.layout.proofs.RunLaws.{sum-small}
use Rattle.layout.proofs.refusals.count_before.Goals as goal

pub loop-k-init : goal.loop-k-init
unfolding columns_before
loop-k-init c = (omega arith, refl)

pub overflow_add-n : goal.overflow_add-n
overflow_add-n c = omega (arith, sum-small _ _ _ _ _ c.loop-k.invariant.1 refl c.loop-k-test.true c.requires.0 c.requires.1)

pub loop-k-preserved : goal.loop-k-preserved
loop-k-preserved c = (omega arith, total_turn _ _ _ _ c.loop-k.invariant.1 refl)

pub returns : goal.returns
returns c = c.loop-k.invariant.1 ∙ ap (columns_before _) (le_antisymm c.loop-k.invariant.0 c.loop-k-test.false)
