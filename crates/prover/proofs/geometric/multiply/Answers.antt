use Rattle.std.proofs.Common.{refl, arith}
use Rattle.field.proofs.Elements.{canonical_words_lem}
use Rattle.prover.proofs.ElementTables.{element_read}
use Rattle.prover.proofs.ProductTurns.{multiplied_start, multiplied_turn, old_canonical}
use Rattle.prover.proofs.geometric.multiply.Goals as goal

pub loop-j-init : goal.loop-j-init
loop-j-init c = multiplied_start _ _ _ _ _ _ c.requires.o_le_l c.requires.by_index c.two_to-rows.ensures.value refl

pub add-s-requires : goal.add-s-requires
add-s-requires c = record { canonical = canonical_words_lem _ c.loop-j.invariant.state; canonical_2 = canonical_words_lem _ c.back.ensures }

pub mul-t-requires : goal.mul-t-requires
mul-t-requires c = record { canonical = c.requires.canonical; canonical_2 = canonical_words_lem _ c.add-s.ensures }

pub mul-requires : goal.mul-requires
mul-requires c = record { canonical = canonical_words_lem _ c.exp_power_of_2-power.ensures; canonical_2 = element_read c.requires.elements _ (omega (arith, c.loop-j.invariant.bound)) c.read-x.ensures }

pub sub-next-requires : goal.sub-next-requires
sub-next-requires c = record { canonical = canonical_words_lem _ c.mul-t.ensures; canonical_2 = canonical_words_lem _ c.mul.ensures }

pub add-requires : goal.add-requires
add-requires c = record { canonical = element_read c.requires.elements _ (omega (arith, c.loop-j.invariant.bound)) c.read-x.ensures; canonical_2 = canonical_words_lem _ c.sub-next.ensures }

pub mul_add-g-requires : goal.mul_add-g-requires
mul_add-g-requires c = record { canonical = old_canonical c.loop-j.invariant c.requires.elements_2 (omega arith) c.read-old.ensures; canonical_2 = c.requires.canonical_2; canonical_3 = canonical_words_lem _ c.add.ensures }

pub write-requires : goal.write-requires
write-requires c = record { i_in_bounds = omega (arith, c.loop-j.invariant.bound, c.loop-j.invariant.size, c.requires.elements_2.size); canonical = canonical_words_lem _ c.mul_add-g.ensures }

pub loop-j-preserved : goal.loop-j-preserved
loop-j-preserved c = multiplied_turn _ _ _ _ _ _ _ _ _ c.loop-j.invariant c.loop-j-test.true c.requires.elements_2.size c.two_to-order.ensures.value c.back.ensures c.add-s.ensures c.mul-t.ensures refl c.read-x.ensures c.exp_power_of_2-power.ensures c.mul.ensures c.sub-next.ensures c.read-old.ensures c.add.ensures c.mul_add-g.ensures c.write.ensures
