use Rattle.std.proofs.Common.{arith}
use Rattle.field.proofs.Elements.{canonical_words_lem}
use Rattle.prover.proofs.ClassTurns.{written_elements}
use Rattle.prover.proofs.OrderTerms.{not-true, gained_elements, order_none, order_below, order_full}
use mathlib.Core.Path.{ap}
use mathlib.Core.Bool.{not}
use Rattle.prover.proofs.first.add_order.Goals as goal

pub returns-then-not-any : goal.returns-then-not-any
returns-then-not-any c = order_none _ _ _ _ _ _ c.args.source.now.matrices.now _ c.requires.taken.placed.walked.all (c.class_rows-any.ensures.missing (not-true _ (ap not c.if-not-any.true))) c.requires.elements

pub add_product-requires : goal.add_product-requires
add_product-requires c = record { l_bound = c.requires.taken.placed.limit; o_le_l = c.requires.order_le_l_skip; power_table = c.requires.taken.power_table; canonical = canonical_words_lem _ c.exp_power_of_2-y.ensures; canonical_2 = canonical_words_lem _ c.from_word-one.ensures; elements = (written_elements c.two_to-rows.ensures.value c.class_rows-any.ensures.summed.u_words c.gain_rows.ensures); e_len = c.requires.e_len; elements_2 = c.requires.elements }

pub add_product-requires-2 : goal.add_product-requires-2
add_product-requires-2 c = record { l_bound = c.requires.taken.placed.limit; o_le_l = c.requires.order_le_l_skip; power_table = c.requires.taken.power_table; canonical = canonical_words_lem _ c.turned-z.ensures; canonical_2 = c.requires.taken.canonical; elements = c.class_rows-any.ensures.summed.f_words; e_len = c.add_product.ensures.e_len_2; elements_2 = (gained_elements c.requires.elements c.add_product.ensures.gained) }

pub returns-then-order-l_skip : goal.returns-then-order-l_skip
returns-then-order-l_skip c = order_below _ _ _ _ _ _ c.args.source.now.matrices.now _ c.requires.taken.placed.limit c.requires.order_le_l_skip c.requires.taken.placed.walked.all c.class_rows-any.ensures.summed c.two_to-rows.ensures.value c.gain_rows.ensures c.lose_rows.ensures c.load.ensures c.exp_power_of_2-y.ensures c.from_word-one.ensures c.turned-z.ensures c.add_product.ensures.gained c.add_product-2.ensures.gained c.requires.elements c.if-order-l_skip.true

pub add_product-requires-3 : goal.add_product-requires-3
add_product-requires-3 c = record { l_bound = c.requires.taken.placed.limit; o_le_l = omega arith; power_table = c.requires.taken.power_table; canonical = canonical_words_lem _ c.from_word-one.ensures; canonical_2 = canonical_words_lem _ c.mul-k.ensures; elements = (written_elements c.two_to-rows.ensures.value c.class_rows-any.ensures.summed.g_words c.lose_rows.ensures); e_len = c.add_product-2.ensures.e_len_2; elements_2 = (gained_elements (gained_elements c.requires.elements c.add_product.ensures.gained) c.add_product-2.ensures.gained) }

pub returns : goal.returns
returns c = order_full _ _ _ _ _ _ c.args.source.now.matrices.now _ c.requires.taken.placed.limit c.requires.order_le_l_skip c.requires.taken.placed.walked.all c.class_rows-any.ensures.summed c.two_to-rows.ensures.value c.gain_rows.ensures c.lose_rows.ensures c.load.ensures c.exp_power_of_2-y.ensures c.from_word-one.ensures c.turned-z.ensures c.add_product.ensures.gained c.add_product-2.ensures.gained c.requires.elements c.if-order-l_skip.false c.requires.taken.wrap_value c.mul-k.ensures c.add_product-3.ensures.gained
