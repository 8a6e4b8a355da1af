use Rattle.std.proofs.Common.{◌*◌, sym, ap, ◌∙◌}
use Rattle.prover.proofs.KernelRows.{room_for}
use Rattle.prover.proofs.OrderTerms.{few, few_twice, twice}
use Rattle.prover.proofs.first.add_order_in_room.Goals as goal

pub add_order-requires : goal.add_order-requires
add_order-requires c = record { taken = c.requires.taken; order_le_l_skip = c.requires.order_le_l_skip; u_len = sym (room_for _ _ (few c.requires.taken.placed.limit c.two_to-rows.ensures.value)) ∙ ap (λ m. 4 * m) c.two_to-rows.ensures.value; f_len = sym (room_for _ _ (few c.requires.taken.placed.limit c.two_to-rows.ensures.value)) ∙ ap (λ m. 4 * m) c.two_to-rows.ensures.value; g_len = sym (room_for _ _ (few c.requires.taken.placed.limit c.two_to-rows.ensures.value)) ∙ ap (λ m. 4 * m) c.two_to-rows.ensures.value; e_len = sym (room_for _ _ (few_twice c.requires.taken.placed.limit c.two_to-rows.ensures.value)) ∙ twice _ c.two_to-rows.ensures.value; elements = c.requires.elements }

pub slice_bounds-f-end : goal.slice_bounds-f-end
slice_bounds-f-end c = few c.requires.taken.placed.limit c.two_to-rows.ensures.value

pub slice_bounds-u-end : goal.slice_bounds-u-end
slice_bounds-u-end c = few c.requires.taken.placed.limit c.two_to-rows.ensures.value

pub slice_bounds-add_order-end-2 : goal.slice_bounds-add_order-end-2
slice_bounds-add_order-end-2 c = room_for _ _ (few c.requires.taken.placed.limit c.two_to-rows.ensures.value)

pub slice_bounds-add_order-end-4 : goal.slice_bounds-add_order-end-4
slice_bounds-add_order-end-4 c = room_for _ _ (few_twice c.requires.taken.placed.limit c.two_to-rows.ensures.value)

pub slice_bounds-add_order-end : goal.slice_bounds-add_order-end
slice_bounds-add_order-end c = room_for _ _ (few c.requires.taken.placed.limit c.two_to-rows.ensures.value)

pub slice_bounds-g-end : goal.slice_bounds-g-end
slice_bounds-g-end c = few c.requires.taken.placed.limit c.two_to-rows.ensures.value

pub slice_bounds-add_order-end-3 : goal.slice_bounds-add_order-end-3
slice_bounds-add_order-end-3 c = room_for _ _ (few c.requires.taken.placed.limit c.two_to-rows.ensures.value)

pub slice_bounds-e-end : goal.slice_bounds-e-end
slice_bounds-e-end c = few_twice c.requires.taken.placed.limit c.two_to-rows.ensures.value
