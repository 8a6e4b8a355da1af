-- `stacked_pcs::get` meets its contract. Assumes nothing.
use mathlib.Core.Path.{refl}
use native.Mathlib.Omega.{arith}
use Rattle.layout.specs.Answers.{answer_of}
use Rattle.layout.specs.Getting.{got_of}
use Rattle.layout.proofs.Passed.{plan_laid}
use Rattle.layout.proofs.Answering.{zero_by, refused_by}
use Rattle.layout.proofs.Handing.{handed}
use Rattle.layout.proofs.Parts.{Gettable, get_passed, got_slice, get_cells, get_small, get_room}
use Rattle.layout.proofs.stacked_pcs.get.Goals.{In_ok-getting}
use Rattle.layout.proofs.stacked_pcs.get.Goals as goal

ready : (c : In_ok-getting) → Gettable c.args.l_skip c.args.n_stack c.args.sorted.now c.args.mat_idx c.args.col_idx
unfolding answer_of
ready c = get_passed _ _ _ _ _ (zero_by _ _ c.getting.ensures c.in_ok-getting.was)

pub returns-in_err-getting : goal.returns-in_err-getting
unfolding got_of answer_of
returns-in_err-getting c = refused_by _ _ _ _ c.getting.ensures c.in_err-getting.was c.from_residual.ensures.1 refl

pub overflow_mul-log : goal.overflow_mul-log
overflow_mul-log c = omega (arith, (ready c).there)

pub overflow_add-log : goal.overflow_add-log
overflow_add-log c = omega (arith, (ready c).there)

pub offset_bounds-sorted-mat_idx : goal.offset_bounds-sorted-mat_idx
offset_bounds-sorted-mat_idx c = omega (arith, (ready c).there)

pub bounds-sorted-mat_idx : goal.bounds-sorted-mat_idx
bounds-sorted-mat_idx c = omega (arith, (ready (goal.at.bounds-sorted-mat_idx c).In_ok-getting).there)

pub matrix_start-s-requires : goal.matrix_start-s-requires
matrix_start-s-requires c = (plan_laid _ _ _ (ready (goal.at.matrix_start-s-requires c).In_ok-getting).plan, omega (arith, (ready (goal.at.matrix_start-s-requires c).In_ok-getting).there))

pub slice_len-requires : goal.slice_len-requires
slice_len-requires c = let r = ready (goal.at.slice_len-requires c).In_ok-getting in let p = plan_laid _ _ _ r.plan in (omega (arith, p.logs _ r.there (omega (arith, r.within)), p.shaped.sum), omega (arith, p.shaped.skip))

pub overflow_mul-col_idx : goal.overflow_mul-col_idx
overflow_mul-col_idx c = omega (arith, get_cells _ _ _ _ _ (ready (goal.at.overflow_mul-col_idx c).In_ok-getting) _ _ c.matrix_start-s.ensures c.slice_len.ensures)

pub overflow_add-s : goal.overflow_add-s
overflow_add-s c = omega (arith, get_cells _ _ _ _ _ (ready (goal.at.overflow_add-s c).In_ok-getting) _ _ c.matrix_start-s.ensures c.slice_len.ensures, get_small _ _ _ _ _ (ready (goal.at.overflow_add-s c).In_ok-getting) _ _ c.matrix_start-s.ensures c.slice_len.ensures)

pub slice_at-slice-requires : goal.slice_at-slice-requires
slice_at-slice-requires c = ((plan_laid _ _ _ (ready (goal.at.slice_at-slice-requires c).In_ok-getting).plan).shaped.sum, get_room _ _ _ _ _ (ready (goal.at.slice_at-slice-requires c).In_ok-getting) _ _ c.matrix_start-s.ensures c.slice_len.ensures)

pub returns : goal.returns
unfolding got_of answer_of
returns c = handed _ (zero_by _ _ c.getting.ensures c.in_ok-getting.was) (got_slice _ _ _ _ _ _ _ _ c.matrix_start-s.ensures c.slice_len.ensures c.slice_at-slice.ensures)
