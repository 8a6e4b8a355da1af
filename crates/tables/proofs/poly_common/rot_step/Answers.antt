use Rattle.field.proofs.Elements.{elem_of_words_of}
use Rattle.tables.proofs.poly_common.rot_step.Goals as goal

pub returns : goal.returns
returns c = simp (c.add.ensures, c.mul-4.ensures, c.mul-3.ensures, c.sub-2.ensures, c.mul-2.ensures, c.mul.ensures, c.sub.ensures, c.from_word-one.ensures, elem_of_words_of)
