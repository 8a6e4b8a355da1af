use Rattle.std.proofs.Common.{◌∙◌, arith}
use Rattle.prover.proofs.ClassTurns.{zero_is}
use Rattle.prover.proofs.OrderTerms.{wrap_is, orders_words, orders_none, orders_turn, placed-planned, orders_end}
use Rattle.prover.proofs.first.first_polynomial.Goals as goal

pub loop-order-init : goal.loop-order-init
loop-order-init c = (omega arith, orders_none _ _ zero_is c.fill.ensures)

pub add_order_in_room-requires : goal.add_order_in_room-requires
add_order_in_room-requires c = record { taken = record { placed = c.requires.placed; r_len = c.requires.r_len; r_value = c.requires.r_value; canonical = c.requires.canonical; matrices_len = c.requires.matrices_len; power_table = c.powers-t.ensures; wrap_value = wrap_is c.requires.placed.limit _ c.load.ensures c.turned.ensures c.eval_eq_uni_at_one-wrap.ensures }; order_le_l_skip = omega arith; elements = orders_words _ c.loop-order.invariant.1 c.two_to-rows.ensures.value (c.fill.ensures.length_kept ∙ c.requires.out_len) }

pub loop-order-preserved : goal.loop-order-preserved
loop-order-preserved c = (omega arith, orders_turn _ _ _ c.two_to-rows.ensures.value c.loop-order.invariant.1 c.add_order_in_room.ensures)

pub returns : goal.returns
returns c = orders_end _ _ (placed-planned _ _ c.requires.placed) c.loop-order.order (omega arith) c.loop-order.invariant.0 c.two_to-rows.ensures.value (c.fill.ensures.length_kept ∙ c.requires.out_len) c.loop-order.invariant.1
