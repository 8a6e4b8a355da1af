use Rattle.std.proofs.Common.{◌≡◌, ◌+◌, refl, ◌∙◌, arith}
use Rattle.layout.specs.Lists.{first_count}
use Rattle.prover.specs.Given.{given}
use Rattle.prover.proofs.Filled.{filled_none}
use Rattle.prover.proofs.HeightWalks.{count_all, count_room, count_held}
use Rattle.prover.proofs.SlotLaws.{slots_rise}
use Rattle.prover.proofs.HeightScales.{scale_more, rotate_more, scaling_eq, scaling_rot}
use Rattle.prover.proofs.heights.scale_tables.Goals as goal

pub loop-h-init : goal.loop-h-init
loop-h-init c = (omega arith, refl, refl, λ counts lambda. record { eqs = filled_none _ _ _ _; rots = filled_none _ _ _ _ })

pub loop-h-preserved : goal.loop-h-preserved
loop-h-preserved c = (
  omega (arith, c.loop-h-test.true),
  (c.scale_height.ensures.by_index 0 0 c.args.r.now c.args.r.now).length_kept ∙ c.loop-h.invariant.1,
  (c.scale_height.ensures.by_index_2 0 0 c.args.r.now c.args.r.now).length_kept ∙ c.loop-h.invariant.2,
  λ counts lambda. record {
    eqs = scale_more c.requires.slots c.loop-h.h c.loop-h-test.true _ _ (c.loop-h.invariant.3 counts lambda).eqs (c.scale_height.ensures.by_index c.args.heights.n_stack (first_count counts) c.args.heights.lists.now lambda);
    rots = rotate_more c.requires.slots c.loop-h.h c.loop-h-test.true _ _ (c.loop-h.invariant.3 counts lambda).eqs _ _ _ (c.loop-h.invariant.3 counts lambda).rots (c.scale_height.ensures.by_index_2 c.args.heights.n_stack (first_count counts) c.args.heights.lists.now lambda);
  },
)

pub scale_height-requires : goal.scale_height-requires
scale_height-requires c = record { l_skip_bound = (c.requires.l_skip_bound.0, omega (arith, c.loop-h-test.true, c.requires.l_skip_bound.2), omega (arith, c.loop-h-test.true, c.requires.l_skip_bound.1)); entries_value = (λ z. count_all c.requires.slots c.loop-h.h c.loop-h-test.true z); shift_value = c.shift_kernel-shift.ensures; l_skip_in_bounds = omega (arith, c.loop-h-test.true, c.requires.r_len); r_value = c.requires.r_value; held = count_held c.requires.slots c.loop-h.h c.loop-h-test.true _ _ (c.loop-h.invariant.3 c.args.r.now c.args.r.now).eqs c.requires.eq_len c.requires.eq_value; entries_in_bounds = count_room c.requires.slots c.loop-h.h c.loop-h-test.true c.args.k_rot.now c.loop-h.k_rot c.requires.k_rot_len c.loop-h.invariant.2 }

pub overflow_sub-end : goal.overflow_sub-end
overflow_sub-end c = slots_rise c.requires.slots c.loop-h.h (omega (arith, c.loop-h-test.true))

pub returns : goal.returns
returns c =
    let done : c.loop-h.h ≡ c.args.heights.l_skip + c.args.heights.n_stack + 1 = omega (arith, c.loop-h.invariant.0, c.loop-h-test.false) in
    record { by_index = (λ counts lambda. scaling_eq (given c.args.heights.l_skip c.args.heights.n_stack counts c.args.heights.lists.now c.args.r.now lambda) _ _ _ _ done (c.loop-h.invariant.3 counts lambda) c.requires.eq_len); by_index_2 = (λ counts lambda. scaling_rot (given c.args.heights.l_skip c.args.heights.n_stack counts c.args.heights.lists.now c.args.r.now lambda) _ _ _ _ done (c.loop-h.invariant.3 counts lambda) c.requires.k_rot_len) }
