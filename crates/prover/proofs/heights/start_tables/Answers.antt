use Rattle.std.proofs.Common.{◌+◌, ◌-◌, ◌^◌, sym, ap, ◌∙◌, subst, arith}
use Rattle.algebra.specs.Multilinear.{cube_factor}
use Rattle.field.specs.Element.{F, words_of}
use Rattle.tables.specs.Points.{coordinates}
use Rattle.prover.specs.Calls.{start_eq}
use Rattle.prover.proofs.Filled.{Filled, filled_none, filled_end}
use Rattle.prover.proofs.HeightWalks.{count_all, count_room, height-written}
use Rattle.prover.proofs.SlotLaws.{slots_rise}
use Rattle.prover.proofs.heights.start_tables.Goals as goal

pub loop-h-init : goal.loop-h-init
loop-h-init c = (omega arith, filled_none _ _ _ _)

pub loop-h-preserved : goal.loop-h-preserved
loop-h-preserved c = (omega (arith, c.loop-h-test.true), height-written c.requires.slots c.loop-h.h c.loop-h-test.true _ _ c.loop-h.invariant.1 _ c.start_height.ensures (λ x. ap (λ m. words_of (cube_factor F (coordinates c.args.r.now 1 m) x)) c.lifted.ensures))

pub returns : goal.returns
unfolding start_eq
returns c =
    filled_end _ _ _ _ c.args.heights.n_stack (subst (λ h. Filled c.args.heights.l_skip c.args.heights.lists.now c.args.eq.now (λ g x. words_of (cube_factor F (coordinates c.args.r.now 1 (g - c.args.heights.l_skip)) x)) h c.loop-h.eq) {x = c.loop-h.h} {y = c.args.heights.l_skip + c.args.heights.n_stack + 1} (omega (arith, c.loop-h.invariant.0, c.loop-h-test.false)) c.loop-h.invariant.1) c.requires.eq_len

pub start_height-requires : goal.start_height-requires
start_height-requires c = record { entries_value = (λ z. count_all c.requires.slots c.loop-h.h c.loop-h-test.true z ∙ ap (λ m. 2 ^ m) (sym c.lifted.ensures)); lift_bound = omega (arith, c.lifted.ensures, c.loop-h-test.true, c.requires.n_stack_bound.0); lift_in_bounds = omega (arith, c.lifted.ensures, c.loop-h-test.true, c.requires.r_len); r_value = c.requires.r_value; entries_in_bounds = count_room c.requires.slots c.loop-h.h c.loop-h-test.true c.args.eq.now c.loop-h.eq c.requires.eq_len c.loop-h.invariant.1.length_kept }

pub overflow_sub-end : goal.overflow_sub-end
overflow_sub-end c = slots_rise c.requires.slots c.loop-h.h (omega (arith, c.loop-h-test.true))
