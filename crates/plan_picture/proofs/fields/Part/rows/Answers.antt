-- `plan_picture::fields::Part::rows` meets its contract.
use Prim.Native.Nat.{◌^◌, max}
use mathlib.Core.Path.{ap, ap₂, ◌∙◌}
use Rattle.layout.specs.Placing.{slice_length}
use Rattle.plan_picture.proofs.fields.Part.rows.Goals as goal

pub returns : goal.returns
unfolding slice_length
returns c = c.max.ensures ∙ ap₂ max (c.pow2.ensures ∙ ap (λ k. 2 ^ k) c.log_height.ensures) c.pow2-2.ensures
