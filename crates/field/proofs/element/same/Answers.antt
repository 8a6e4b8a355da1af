use mathlib.Core.Path.{◌∙◌}
use borrow.Author.Rules.{rules}
use Rattle.field.proofs.FourWords.{pointwise_four}
use Rattle.field.proofs.element.same.Goals as goal

pub returns : goal.returns
returns c = c.eq.ensures ∙ pointwise_four _ _ (search rules) (search rules)
