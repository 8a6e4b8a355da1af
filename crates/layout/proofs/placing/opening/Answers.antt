use mathlib.Core.Path.{sym, ◌∙◌}
use Rattle.layout.proofs.Slices.{opened_later, opened-within}
use Rattle.layout.proofs.placing.opening.Goals as goal

pub returns-then-first-i : goal.returns-then-first-i
returns-then-first-i c = c.round_up.ensures ∙ sym (opened_later _ _ _ _ _ c.if-first-i.true)

pub returns : goal.returns
returns c = sym (opened-within _ _ _ _ _ c.if-first-i.false)
