use mathlib.Core.Path.{◌∙◌, ap₂}
use Rattle.field.specs.Element.{◌⊗◌, words_of}
use Rattle.field.proofs.Elements.{canonical_words_lem, elem_of_words}
use Rattle.field.proofs.element.mul.Goals as goal

pub product-requires : goal.product-requires
product-requires c = record { canonical = canonical_words_lem _ c.canonical.ensures; canonical_2 = canonical_words_lem _ c.canonical-2.ensures }

pub returns : goal.returns
returns c = c.product.ensures ∙ ap₂ (λ x y. words_of (x ⊗ y)) (elem_of_words _ c.canonical.ensures) (elem_of_words _ c.canonical-2.ensures)
