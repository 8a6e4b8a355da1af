use Rattle.field.specs.Element.{elem_of}
use Rattle.field.proofs.Elements.{product_words}
use Rattle.field.proofs.element.product.Goals as goal

pub returns : goal.returns
unfolding elem_of
returns c =
    product_words _ _ _ _ _ _ _ _ _ _ _ c.mul-w1.ensures c.mul-w2.ensures c.mul-w3.ensures c.dot.ensures c.dot-2.ensures c.dot-3.ensures c.dot-4.ensures
