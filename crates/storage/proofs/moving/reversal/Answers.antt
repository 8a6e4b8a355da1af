use native.Mathlib.Omega.{arith}
use Rattle.storage.proofs.Reversals.{passing_start, passing_fits, passing_turn}
use Rattle.storage.proofs.moving.reversal.Goals as goal

pub loop-i-init : goal.loop-i-init
loop-i-init c = (omega arith, passing_start _)

pub overflow_mul-y : goal.overflow_mul-y
overflow_mul-y c = omega (arith, passing_fits _ _ _ _ c.loop-i.invariant.1.0 c.loop-i-test.true c.requires)

pub overflow_add-y : goal.overflow_add-y
overflow_add-y c = omega (arith, passing_fits _ _ _ _ c.loop-i.invariant.1.0 c.loop-i-test.true c.requires)

pub loop-i-preserved : goal.loop-i-preserved
loop-i-preserved c = (omega arith, passing_turn _ _ _ _ c.loop-i.invariant.1)
