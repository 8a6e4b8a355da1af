use Rattle.algebra.specs.Multilinear.{line}
use Rattle.field.proofs.Elements.{elem_of_words_of}
use Rattle.tables.proofs.poly_common.interpolate_linear_at_01.Goals as goal

pub returns : goal.returns
unfolding line
returns c = simp (c.add.ensures, c.mul.ensures, c.sub.ensures, elem_of_words_of)
