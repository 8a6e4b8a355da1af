use Rattle.field.specs.Element.{◌⊖◌}
use Rattle.std.proofs.Common.{arith}
use Rattle.prover.proofs.Writing.{written_none}
use Rattle.field.proofs.Elements.{canonical_words_lem}
use Rattle.prover.proofs.ElementTables.{element_read}
use Rattle.prover.proofs.RowPairs.{row-left, pair_turn_lem}
use Rattle.prover.proofs.first.lose_rows.Goals as goal

pub loop-i-init : goal.loop-i-init
loop-i-init c = (omega arith, written_none _ _ _)

pub sub-requires : goal.sub-requires
sub-requires c = record { canonical = row-left _ c.requires.elements_2 c.loop-i.invariant.1 c.loop-i-test.true c.read-y.ensures; canonical_2 = element_read c.requires.elements _ c.loop-i-test.true c.read-x.ensures }

pub write-requires : goal.write-requires
write-requires c = record { i_in_bounds = omega (arith, c.requires.elements_2.size, c.loop-i.invariant.1.length_kept); canonical = canonical_words_lem _ c.sub.ensures }

pub loop-i-preserved : goal.loop-i-preserved
loop-i-preserved c = (omega arith, pair_turn_lem ◌⊖◌ _ _ c.requires.elements_2 c.loop-i.invariant.1 c.loop-i-test.true c.read-x.ensures c.read-y.ensures c.sub.ensures c.write.ensures)
