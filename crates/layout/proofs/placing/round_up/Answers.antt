use Prim.Native.Nat.{◌+◌, ◌-◌}
use native.Mathlib.Omega.{arith}
use native.Mathlib.Nat.{div-mul-le_self}
use lib.Pow.{pow_pos, pow_mono}
use Rattle.layout.specs.Placing.{round_up}
use Rattle.layout.proofs.placing.round_up.Goals as goal

pub overflow_sub-result : goal.overflow_sub-result
overflow_sub-result c = omega (arith, pow_pos c.args.k)

pub overflow_add-result : goal.overflow_add-result
overflow_add-result c = omega (arith, pow_mono {i = c.args.k} {j = 24} c.requires.0)

pub nonzero_div-result : goal.nonzero_div-result
nonzero_div-result c = omega (arith, pow_pos c.args.k)

pub overflow_mul-result : goal.overflow_mul-result
overflow_mul-result c = omega (arith, pow_mono {i = c.args.k} {j = 24} c.requires.0, div-mul-le_self (c.args.s + (c.pow2-h.result - 1)) c.pow2-h.result)

pub returns : goal.returns
unfolding round_up
returns c = cc
