-- `stacked_pcs::planned` meets its contract. Assumes nothing.
use Prim.Native.Nat.{ℕ, ◌+◌, ◌/◌, ◌^◌}
use mathlib.Core.Path.{ap}
use native.Mathlib.Omega.{arith}
use lib.Pow.{pow_mono}
use Rattle.layout.proofs.Packing.{width_few}
use Rattle.layout.proofs.Plans.{done_is}
use Rattle.layout.proofs.stacked_pcs.planned.Goals as goal

pub overflow_cast-result-2 : goal.overflow_cast-result-2
overflow_cast-result-2 c =
    let a = c.args in
    let p = c.requires in
    omega (arith, ap (λ (x : ℕ). x / 2 ^ (a.l_skip + a.n_stack)) c.matrix_start-end.ensures, width_few a.l_skip a.n_stack a.list.now p.0 p.1)

pub overflow_cast-result-3 : goal.overflow_cast-result-3
overflow_cast-result-3 c =
    let a = c.args in
    omega (arith, c.pow2-h.ensures, pow_mono {i = a.l_skip + a.n_stack} {j = 24} c.requires.0.shaped.sum)

pub returns : goal.returns
returns c = done_is _ _ _ _ _ _ c.matrix_start-end.ensures c.pow2-h.ensures c.count-columns.ensures
