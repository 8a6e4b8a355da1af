-- `refusals::place` meets its contract: the tests decide whether the columns of a matrix fit. Assumes nothing.
use Prim.Native.Nat.{◌*◌, ◌^◌, ◌≤◌, ◌+◌}
use mathlib.Core.Path.{sym, ap}
use native.Mathlib.Nat.{mod-lt, mod-le}
use native.Mathlib.Omega.{arith}
use lib.Pow.{pow_mono, pow_pos}
use Rattle.field.specs.Number.{settled, refusal_of, refusals}
use Rattle.layout.specs.Answers.{answer_of}
use Rattle.layout.proofs.Fitting.{matrix_empty, matrix_high, place_aligned, place-below, place-over, place-room}
use Rattle.layout.proofs.Slices.{slice-pos}
use Rattle.layout.proofs.refusals.place.Goals.{Else-row-len-eq0}
use Rattle.layout.proofs.refusals.place.Goals as goal

room : (c : Else-row-len-eq0) → c.args.w * c.slice_len-len.result ≤ 2 ^ 36
room c =
    place-room _ _ _ _ c.args.s _ _ c.if-l_skip-n_stack.false c.slice_len-len.ensures
    c.pow2-h.ensures (omega arith) (omega arith) (omega arith)

pub returns-then-w-eq0 : goal.returns-then-w-eq0
unfolding answer_of settled
returns-then-w-eq0 c = ap answer_of (sym (matrix_empty _ _ _ _ _ c.if-w-eq0.true))

pub returns-then-l_skip-n_stack : goal.returns-then-l_skip-n_stack
unfolding answer_of settled refusal_of refusals
returns-then-l_skip-n_stack c = ap answer_of (matrix_high _ _ _ _ _ (omega arith) c.if-l_skip-n_stack.true)

pub nonzero_rem-row : goal.nonzero_rem-row
nonzero_rem-row c = omega (arith, pow_pos (c.args.l_skip + c.args.n_stack))

pub nonzero_rem-row-2 : goal.nonzero_rem-row-2
nonzero_rem-row-2 c = omega (arith, slice-pos c.args.l_skip c.args.log)

pub returns-then-row-len-eq0 : goal.returns-then-row-len-eq0
unfolding answer_of settled
returns-then-row-len-eq0 c = ap answer_of (place_aligned _ _ _ _ _ _ _ c.if-l_skip-n_stack.false c.slice_len-len.ensures c.pow2-h.ensures c.if-row-len-eq0.true)

pub overflow_mul-w : goal.overflow_mul-w
overflow_mul-w c = omega (arith, room c)

pub overflow_add-row : goal.overflow_add-row
overflow_add-row c = omega (arith, room c, mod-le c.args.s c.pow2-h.result, mod-lt c.args.s {m = c.pow2-h.result} (omega (arith, pow_pos (c.args.l_skip + c.args.n_stack))), c.pow2-h.ensures, pow_mono {i = c.args.l_skip + c.args.n_stack} {j = 24} (omega arith))

pub returns-then-row-w : goal.returns-then-row-w
unfolding answer_of settled
returns-then-row-w c = ap answer_of (place-below _ _ _ _ _ _ _ c.if-l_skip-n_stack.false c.slice_len-len.ensures c.pow2-h.ensures c.if-row-w.true)

pub returns : goal.returns
unfolding answer_of settled refusal_of refusals
returns c = ap answer_of (place-over _ _ _ _ _ _ _ c.if-l_skip-n_stack.false c.slice_len-len.ensures c.pow2-h.ensures c.if-row-len-eq0.false c.if-row-w.false)
