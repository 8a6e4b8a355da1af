use Rattle.field.proofs.Embedding.{half_two}
use Rattle.field.specs.Element.{F, half_elem}
use Rattle.field.proofs.Elements.{elem_of_words_of}
use Rattle.tables.proofs.Quadratics.{quadratic_horner}
use Rattle.tables.proofs.poly_common.interpolate_quadratic_at_012.Goals as goal

pub returns : goal.returns
returns c = simp (quadratic_horner F half_elem half_two, c.add-2.ensures, c.mul-2.ensures, c.add.ensures, c.mul.ensures, c.sub-q.ensures, c.halve-p.ensures, c.sub.ensures, c.sub-d2.ensures, c.sub-d1.ensures, elem_of_words_of)
