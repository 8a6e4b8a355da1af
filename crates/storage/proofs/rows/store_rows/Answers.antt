-- `rows::store_rows` meets its contract. Assumes nothing.
use mathlib.Core.Path.{refl, ◌∙◌}
use Rattle.layout.specs.Answers.{answer_of}
use Rattle.layout.proofs.Answering.{zero_by, not_zero_by, refused_by}
use Rattle.layout.proofs.Handing.{handed}
use Rattle.storage.proofs.Accepted.{accepted, stored_not, stored_done}
use Rattle.storage.proofs.rows.store_rows.Goals as goal

pub returns-in_err-number : goal.returns-in_err-number
unfolding answer_of
returns-in_err-number c = (
  refused_by _ _ _ _ c.number.ensures c.in_err-number.was c.from_residual.ensures.1 refl,
  stored_not _ _ _ _ (not_zero_by _ _ c.number.ensures c.in_err-number.was),
)

pub store-requires : goal.store-requires
unfolding answer_of
store-requires c =
    let a = accepted _ _ _ _ (zero_by _ _ c.number.ensures c.in_ok-number.was) in
    (a.narrow, a.few, a.source, a.target)

pub returns : goal.returns
unfolding answer_of
returns c =
    let z = zero_by _ _ c.number.ensures c.in_ok-number.was in
    (handed _ z refl, c.store.ensures ∙ stored_done _ _ _ _ z)
