use Rattle.std.proofs.Common.{◌∙◌, arith}
use Rattle.field.proofs.Elements.{canonical_words_lem}
use Rattle.prover.proofs.Writing.{written_none, written_end, written_again}
use Rattle.prover.proofs.ElementTables.{element_read, written_table}
use Rattle.prover.proofs.SpreadTurns.{written_back, spread_turn, spread_turn_high}
use Rattle.prover.proofs.geometric.spread.Goals as goal

pub loop-j-init : goal.loop-j-init
loop-j-init c = (omega arith, written_none _ _ _)

pub add-y-requires : goal.add-y-requires
add-y-requires c = record { canonical = element_read c.requires.elements _ (omega (arith, c.two_to-rows.ensures.value)) c.read-x.ensures; canonical_2 = canonical_words_lem _ c.back.ensures }

pub write-requires : goal.write-requires
write-requires c = record { i_in_bounds = omega (arith, c.loop-j.invariant.1.length_kept, c.requires.e_len, c.two_to-rows.ensures.value); canonical = canonical_words_lem _ c.add-y.ensures }

pub loop-j-preserved : goal.loop-j-preserved
loop-j-preserved c = (omega arith, spread_turn _ _ c.requires.o_le_l _ _ _ _ c.loop-j.invariant.1 c.loop-j-test.true c.requires.e_len c.two_to-order.ensures.value c.two_to-rows.ensures.value c.read-x.ensures c.back.ensures c.add-y.ensures c.write.ensures)

pub loop-j-2-init : goal.loop-j-2-init
loop-j-2-init c = (omega arith, written_end (omega arith) (omega arith) (written_again c.loop-j.invariant.1))

pub sub-y-requires : goal.sub-y-requires
sub-y-requires c = record { canonical = canonical_words_lem _ c.back-x.ensures; canonical_2 = element_read c.requires.elements _ (omega (arith, c.two_to-rows.ensures.value)) c.read.ensures }

pub write-requires-in-loop-j-2 : goal.write-requires-in-loop-j-2
write-requires-in-loop-j-2 c = record { i_in_bounds = omega (arith, c.loop-j-2.invariant.1.length_kept, c.loop-j.invariant.1.length_kept, c.requires.e_len, c.two_to-rows.ensures.value); canonical = canonical_words_lem _ c.sub-y.ensures }

pub loop-j-2-preserved : goal.loop-j-2-preserved
loop-j-2-preserved c = (omega arith, spread_turn_high _ _ c.requires.o_le_l _ _ _ _ c.loop-j-2.invariant.1 c.loop-j-2-test.true (c.loop-j.invariant.1.length_kept ∙ c.requires.e_len) c.two_to-order.ensures.value c.two_to-rows.ensures.value c.back-x.ensures c.read.ensures c.sub-y.ensures c.write-in-loop-j-2.ensures)

pub returns : goal.returns
returns c = written_table _ c.loop-j-2.invariant.1 (omega (arith, c.two_to-rows.ensures.value)) (c.loop-j.invariant.1.length_kept ∙ c.requires.e_len)

pub back-x-requires : goal.back-x-requires
back-x-requires c = record { d_in_bounds = λ h. omega (arith, c.loop-j-2.invariant.1.length_kept, c.loop-j.invariant.1.length_kept, c.requires.e_len, c.two_to-rows.ensures.value); canonical = λ h. written_back c.loop-j-2.invariant.1 _ c.two_to-order.ensures.result_nonzero h }

pub back-requires : goal.back-requires
back-requires c = record { d_in_bounds = λ h. omega (arith, c.loop-j.invariant.1.length_kept, c.requires.e_len, c.two_to-rows.ensures.value); canonical = λ h. written_back c.loop-j.invariant.1 _ c.two_to-order.ensures.result_nonzero h }
