use Rattle.std.proofs.Common.{◌+◌, ◌/◌, ◌^◌, subst, arith}
use Rattle.field.specs.Element.{elem_of}
use Rattle.prover.specs.Slots.{entries, slot_start}
use Rattle.prover.specs.Blocks.{folded_words}
use Rattle.prover.specs.Calls.{fold_tables}
use Rattle.prover.proofs.Filled.{Filled, filled_none, filled_end}
use Rattle.prover.proofs.HeightWalks.{fold_room, fold_below, fold_height}
use Rattle.prover.proofs.SlotLaws.{slots_rise}
use Rattle.prover.proofs.heights.fold_tables.Goals as goal

pub loop-h-init : goal.loop-h-init
loop-h-init c = (omega arith, filled_none _ _ _ _)

pub loop-h-preserved : goal.loop-h-preserved
loop-h-preserved c = (omega (arith, c.loop-h-test.true), fold_height c.requires.slots c.loop-h.h c.loop-h-test.true _ c.requires.n_stack_bound.2 _ _ c.loop-h.invariant.1 c.fold_mle_evals.ensures)

pub returns : goal.returns
unfolding fold_tables
returns c =
    filled_end _ _ _ _ c.args.heights.n_stack (subst (λ h. Filled c.args.heights.l_skip c.args.heights.lists.now c.args.t.now (λ g. folded_words c.args.t.now (slot_start c.args.heights.l_skip c.args.heights.lists.now g) (entries c.args.heights.l_skip c.args.heights.lists.now g / 2 ^ c.args.round) (elem_of c.args.u)) h c.loop-h.t) {x = c.loop-h.h} {y = c.args.heights.l_skip + c.args.heights.n_stack + 1} (omega (arith, c.loop-h.invariant.0, c.loop-h-test.false)) c.loop-h.invariant.1) c.requires.t_len

pub fold_mle_evals-requires : goal.fold_mle_evals-requires
fold_mle_evals-requires c = record { half_in_bounds = fold_room c.requires.slots c.loop-h.h c.loop-h-test.true _ c.requires.n_stack_bound.2 _ _ c.loop-h.invariant.1 c.requires.t_len; canonical_from = fold_below c.requires.slots c.loop-h.h c.loop-h-test.true _ c.requires.n_stack_bound.2 _ _ c.loop-h.invariant.1 c.requires.n_stack_value; canonical = c.requires.canonical }

pub overflow_sub-half : goal.overflow_sub-half
overflow_sub-half c = slots_rise c.requires.slots c.loop-h.h (omega (arith, c.loop-h-test.true))
