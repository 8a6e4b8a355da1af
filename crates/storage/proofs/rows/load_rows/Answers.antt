-- `rows::load_rows` meets its contract. Assumes nothing.
use mathlib.Core.Path.{refl, ◌∙◌}
use Rattle.layout.specs.Answers.{answer_of}
use Rattle.layout.proofs.Answering.{zero_by, not_zero_by, refused_by}
use Rattle.layout.proofs.Handing.{handed}
use Rattle.storage.proofs.Accepted.{accepted, loaded_not, loaded_done}
use Rattle.storage.proofs.rows.load_rows.Goals as goal

pub returns-in_err-number : goal.returns-in_err-number
unfolding answer_of
returns-in_err-number c = (
  refused_by _ _ _ _ c.number.ensures c.in_err-number.was c.from_residual.ensures.1 refl,
  loaded_not _ _ _ _ (not_zero_by _ _ c.number.ensures c.in_err-number.was),
)

pub load-requires : goal.load-requires
unfolding answer_of
load-requires c =
    let a = accepted _ _ _ _ (zero_by _ _ c.number.ensures c.in_ok-number.was) in
    (a.narrow, a.few, a.source, a.target)

pub returns : goal.returns
unfolding answer_of
returns c =
    let z = zero_by _ _ c.number.ensures c.in_ok-number.was in
    (handed _ z refl, c.load.ensures ∙ loaded_done _ _ _ _ z)
