use Rattle.std.proofs.Common.{arith}
use Rattle.field.proofs.Elements.{canonical_words_lem}
use Rattle.prover.proofs.Writing.{written_none}
use Rattle.prover.proofs.StridedTurns.{row_canonical, row_turn}
use Rattle.prover.proofs.row_sums.add_rows.Goals as goal

pub loop-i-init : goal.loop-i-init
loop-i-init c = (omega arith, written_none _ _ _)

pub add-x-requires : goal.add-x-requires
add-x-requires c = record { canonical = row_canonical _ _ _ _ _ _ _ _ _ c.loop-i.invariant.1 c.loop-i-test.true c.requires.canonical_from c.read-old.ensures; canonical_2 = canonical_words_lem _ c.strided-e.ensures }

pub write-requires : goal.write-requires
write-requires c = record { i_in_bounds = omega (arith, c.loop-i.invariant.1.length_kept); canonical = canonical_words_lem _ c.add-x.ensures }

pub loop-i-preserved : goal.loop-i-preserved
loop-i-preserved c = (omega arith, row_turn _ _ _ _ _ _ _ _ _ c.loop-i.invariant.1 c.loop-i-test.true c.requires.rows_in_bounds c.strided-e.ensures c.read-old.ensures c.add-x.ensures c.write.ensures)
