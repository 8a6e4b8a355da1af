use Rattle.algebra.specs.Quadratic.{qadd, qneg}
use Rattle.field.specs.Element.{elem_of}
use Rattle.field.proofs.Elements.{words_of_lem}
use Rattle.field.proofs.element.sub.Goals as goal

pub returns : goal.returns
unfolding elem_of qadd qneg
returns c = words_of_lem _ _ _ _ c.sub.ensures c.sub-2.ensures c.sub-3.ensures c.sub-4.ensures
