use Rattle.algebra.specs.Quadratic.{qadd}
use Rattle.field.specs.Element.{elem_of}
use Rattle.field.proofs.Elements.{words_of_lem}
use Rattle.field.proofs.element.add.Goals as goal

pub returns : goal.returns
unfolding elem_of qadd
returns c = words_of_lem _ _ _ _ c.add.ensures c.add-2.ensures c.add-3.ensures c.add-4.ensures
