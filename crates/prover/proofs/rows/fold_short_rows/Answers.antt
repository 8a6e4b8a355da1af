use Rattle.std.proofs.Common.{arith}
use Rattle.field.proofs.Elements.{elem_of_words, canonical_words_lem}
use Rattle.prover.proofs.Writing.{written_none, written_turn}
use Rattle.prover.proofs.RowTerms.{row_inside}
use Rattle.prover.proofs.rows.fold_short_rows.Goals as goal

pub loop-y-init : goal.loop-y-init
loop-y-init c = (omega arith, written_none _ _ _)

pub short_row-e-requires : goal.short_row-e-requires
short_row-e-requires c = record { n_bound = c.requires.n_bound; words = row_inside _ _ c.loop-y-test.true c.requires.words; k_value = c.requires.k_value }

pub write-requires : goal.write-requires
write-requires c = record { i_in_bounds = omega (arith, c.loop-y.invariant.1.length_kept); canonical = canonical_words_lem _ c.short_row-e.ensures }

pub loop-y-preserved : goal.loop-y-preserved
loop-y-preserved c = (omega arith, written_turn c.loop-y.invariant.1 (omega arith) (elem_of_words _ c.short_row-e.ensures) c.write.ensures)
