use Rattle.algebra.specs.Quadratic.{qneg}
use Rattle.field.specs.Element.{elem_of}
use Rattle.field.proofs.Elements.{words_of_lem}
use Rattle.field.proofs.element.neg.Goals as goal

pub returns : goal.returns
unfolding elem_of qneg
returns c = words_of_lem _ _ _ _ c.neg.ensures c.neg-2.ensures c.neg-3.ensures c.neg-4.ensures
