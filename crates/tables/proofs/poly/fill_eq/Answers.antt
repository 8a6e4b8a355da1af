use Prim.Native.Nat.{◌-◌}
use native.Mathlib.Omega.{arith}
use Rattle.tables.proofs.EqTableLoop.{last_start, room, last_turn}
use Rattle.tables.proofs.poly.fill_eq.Goals as goal

pub loop-i-init : goal.loop-i-init
loop-i-init c = last_start _ _ _ c.requires.out_len c.requires.out_value

pub expand-requires : goal.expand-requires
expand-requires c = room _ _ _ _ (c.loop-i.i - 1) _ _ c.loop-i.invariant (omega (arith, c.loop-i-test.true))

pub overflow_mul-half : goal.overflow_mul-half
overflow_mul-half c = record { fits = omega (arith, room _ _ _ _ (c.loop-i.i - 1) _ _ c.loop-i.invariant (omega (arith, c.loop-i-test.true))) }

pub loop-i-preserved : goal.loop-i-preserved
loop-i-preserved c = last_turn _ _ _ _ (c.loop-i.i - 1) _ _ c.loop-i.invariant (omega (arith, c.loop-i-test.true)) _ c.load-x_i.ensures c.expand.ensures
