-- `records::slice_at` meets its contract. Assumes nothing.
use Prim.Native.Nat.{ℕ, ◌*◌, ◌-◌, ◌/◌, ◌%◌, ◌+◌, ◌^◌, ◌≤◌}
use mathlib.Core.Path.{◌≡◌, ap, ◌∙◌}
use native.Mathlib.Nat.{div-mul-le_self}
use native.Mathlib.Omega.{arith}
use Rattle.layout.specs.Slice.{slice_at}
use Rattle.layout.proofs.Packing.{stack_small, row_small, row_is}
use Rattle.layout.proofs.records.slice_at.Goals.{After-pow2-h}
use Rattle.layout.proofs.records.slice_at.Goals as goal

rows : (c : After-pow2-h) → c.args.s - c.args.s / 2 ^ (c.args.l_skip + c.args.n_stack) * c.pow2-h.result ≡ c.args.s % 2 ^ (c.args.l_skip + c.args.n_stack)
rows c =
    let a = c.args in
    ap (λ (x : ℕ). a.s - a.s / 2 ^ (a.l_skip + a.n_stack) * x) c.pow2-h.ensures ∙ row_is a.l_skip a.n_stack a.s c.requires.0 c.requires.1

whole : (c : After-pow2-h) → c.args.s / 2 ^ (c.args.l_skip + c.args.n_stack) * c.pow2-h.result ≤ c.args.s
whole c =
    let a = c.args in
    omega (arith, ap (λ (x : ℕ). a.s / 2 ^ (a.l_skip + a.n_stack) * x) c.pow2-h.ensures, div-mul-le_self a.s (2 ^ (a.l_skip + a.n_stack)))

pub overflow_cast-result : goal.overflow_cast-result
overflow_cast-result c = omega (arith, stack_small c.args.l_skip c.args.n_stack c.args.s c.requires.0 c.requires.1)

pub overflow_mul-result : goal.overflow_mul-result
overflow_mul-result c = omega (arith, whole c)

pub overflow_sub-result : goal.overflow_sub-result
overflow_sub-result c = omega (arith, whole c)

pub overflow_cast-result-2 : goal.overflow_cast-result-2
overflow_cast-result-2 c = omega (arith, rows c, row_small c.args.l_skip c.args.n_stack c.args.s c.requires.0 c.requires.1)

pub returns : goal.returns
unfolding slice_at
returns c = simp (rows c)
