use Rattle.std.proofs.Common.{arith}
use Rattle.prover.proofs.RowTurns.{canonical_quarters, entry_first, entry_index, quarter_words, row_is}
use Rattle.prover.proofs.SumTurns.{summed_start, summed_turn, summed_room, summed_few, summed_end}
use Rattle.prover.proofs.rows.row.Goals as goal

pub loop-g-init : goal.loop-g-init
loop-g-init c = summed_start _

pub dot4-requires : goal.dot4-requires
dot4-requires c = record { canonical = canonical_quarters _ _ _ _ c.requires.words.canonical c.quarters-e.ensures; k_value = c.requires.k_value; i_bound = entry_first c.loop-g-test.true c.requires.groups_bound }

pub dot4-requires-in-loop-g : goal.dot4-requires-in-loop-g
dot4-requires-in-loop-g c = record { canonical = canonical_quarters _ _ _ _ c.requires.words.canonical c.quarters-e.ensures; k_value = c.requires.k_value; i_bound = entry_index {i = 1024} c.loop-g-test.true c.requires.groups_bound (omega arith) }

pub dot4-requires-in-loop-g-2 : goal.dot4-requires-in-loop-g-2
dot4-requires-in-loop-g-2 c = record { canonical = canonical_quarters _ _ _ _ c.requires.words.canonical c.quarters-e.ensures; k_value = c.requires.k_value; i_bound = entry_index {i = 2048} c.loop-g-test.true c.requires.groups_bound (omega arith) }

pub dot4-requires-in-loop-g-3 : goal.dot4-requires-in-loop-g-3
dot4-requires-in-loop-g-3 c = record { canonical = canonical_quarters _ _ _ _ c.requires.words.canonical c.quarters-e.ensures; k_value = c.requires.k_value; i_bound = entry_index {i = 3072} c.loop-g-test.true c.requires.groups_bound (omega arith) }

pub take-s-requires : goal.take-s-requires
take-s-requires c = summed_room _ c.loop-g.invariant (omega arith) c.requires.groups_bound

pub loop-g-preserved : goal.loop-g-preserved
loop-g-preserved c = summed_turn _ c.loop-g.invariant (quarter_words _ _ _ _ _ c.loop-g-test.true c.quarters-e.ensures c.dot4.ensures c.dot4-in-loop-g.ensures c.dot4-in-loop-g-2.ensures c.dot4-in-loop-g-3.ensures) c.take-s.ensures

pub done-requires : goal.done-requires
done-requires c = summed_few _ c.loop-g.invariant (omega arith) c.requires.groups_bound

pub returns : goal.returns
returns c = row_is _ _ _ _ (summed_end _ c.loop-g.invariant (omega arith) c.loop-g-test.false c.done.ensures)
