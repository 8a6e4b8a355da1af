-- `stacked_pcs::mat_place` meets its contract. Assumes nothing.
use mathlib.Core.Path.{refl}
use native.Mathlib.Omega.{arith}
use Rattle.layout.specs.Answers.{answer_of}
use Rattle.layout.specs.Viewing.{mat_place_of}
use Rattle.layout.proofs.Answering.{zero_by, refused_by}
use Rattle.layout.proofs.Handing.{handed}
use Rattle.layout.proofs.Firsts.{positive}
use Rattle.layout.proofs.Passed.{plan_laid}
use Rattle.layout.proofs.Parts.{view_passed, place_made}
use Rattle.layout.proofs.stacked_pcs.mat_place.Goals as goal

pub returns-in_err-viewing : goal.returns-in_err-viewing
unfolding mat_place_of answer_of
returns-in_err-viewing c = refused_by _ _ _ _ c.viewing.ensures c.in_err-viewing.was c.from_residual.ensures.1 refl

pub matrix_start-start-requires : goal.matrix_start-start-requires
unfolding answer_of
matrix_start-start-requires c = let v = view_passed _ _ _ _ _ (zero_by _ _ c.viewing.ensures c.in_ok-viewing.was) in (plan_laid _ _ _ v.plan, omega (arith, v.there))

pub matrix_len-len-requires : goal.matrix_len-len-requires
unfolding answer_of
matrix_len-len-requires c = let v = view_passed _ _ _ _ _ (zero_by _ _ c.viewing.ensures c.in_ok-viewing.was) in (plan_laid _ _ _ v.plan, v.there, positive _ v.some)

pub returns : goal.returns
unfolding mat_place_of answer_of
returns c = handed _ (zero_by _ _ c.viewing.ensures c.in_ok-viewing.was) (place_made _ _ _ _ _ _ c.matrix_start-start.ensures c.matrix_len-len.ensures)
