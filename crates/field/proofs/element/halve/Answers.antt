use mathlib.Core.Path.{◌∙◌, sym, ap}
use Rattle.field.specs.Element.{elem_of, words_of}
use Rattle.field.proofs.Elements.{words_of_lem, scaled}
use Rattle.field.proofs.element.halve.Goals as goal

pub returns : goal.returns
unfolding elem_of
returns c = words_of_lem _ _ _ _ c.halve.ensures c.halve-2.ensures c.halve-3.ensures c.halve-4.ensures ∙ ap words_of (sym (scaled _ _ _ _ _))
