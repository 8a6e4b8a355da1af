-- `plan_text::whole` meets its contract.
use mathlib.Core.Path.{refl, sym}
use Rattle.plan_text.specs.Steps.{whole_of}
use Rattle.plan_text.proofs.Plans.{not_between}
use Rattle.plan_text.proofs.whole.Goals as goal

pub returns-in-Between : goal.returns-in-Between
unfolding whole_of
returns-in-Between c = rw c.in-Between.is refl

pub returns-in_default : goal.returns-in_default
returns-in_default c = sym (not_between c.args.r c.in_default.not-Between)
