use Rattle.field.proofs.Elements.{elem_of_words_of}
use Rattle.tables.proofs.poly_common.eq_factor.Goals as goal

pub returns : goal.returns
returns c =
    simp (c.add.ensures, c.double.ensures, c.sub-2.ensures, c.sub.ensures, c.mul-xy.ensures, c.from_word-one.ensures, elem_of_words_of)
