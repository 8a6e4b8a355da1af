-- `stacked_pcs::stack` meets its contract. Assumes nothing.
use mathlib.Core.Path.{refl}
use Rattle.layout.specs.Answers.{answer_of}
use Rattle.layout.specs.Planning.{laid_out}
use Rattle.layout.proofs.Answering.{zero_by, not_zero_by, refused_by}
use Rattle.layout.proofs.Handing.{handed}
use Rattle.layout.proofs.Traces.{cells_laid, cells_fillable, filled-refused, filled_done}
use Rattle.layout.proofs.stacked_pcs.stack.Goals as goal

pub returns-in_err-cells_number : goal.returns-in_err-cells_number
unfolding laid_out answer_of
returns-in_err-cells_number c = (refused_by _ _ _ _ c.cells_number.ensures c.in_err-cells_number.was c.from_residual.ensures.1 refl, filled-refused _ _ _ _ _ _ (not_zero_by _ _ c.cells_number.ensures c.in_err-cells_number.was))

pub fill-requires : goal.fill-requires
unfolding answer_of
fill-requires c = cells_fillable _ _ _ _ _ _ c.requires.0 (zero_by _ _ c.cells_number.ensures c.in_ok-cells_number.was)

pub planned-requires : goal.planned-requires
unfolding answer_of
planned-requires c = (cells_laid _ _ _ _ _ _ c.requires.0 (zero_by _ _ c.cells_number.ensures c.in_ok-cells_number.was), c.requires.1)

pub returns : goal.returns
unfolding laid_out answer_of
returns c = let z = zero_by _ _ c.cells_number.ensures c.in_ok-cells_number.was in (handed _ z c.planned.ensures, filled_done _ _ _ _ _ _ _ z c.fill.ensures)
