use Rattle.prover.proofs.HeightScales.{none_written, all_written, plain-written}
use Rattle.prover.proofs.heights.start_height.Goals as goal

pub returns-then-entries-eq0 : goal.returns-then-entries-eq0
returns-then-entries-eq0 c = none_written _ _ _ _ c.if-entries-eq0.true

pub returns : goal.returns
returns c = all_written _ _ _ _ _ (c.requires.entries_value c.if-entries-eq0.false) (plain-written _ _ _ _ c.eq_table.ensures)
