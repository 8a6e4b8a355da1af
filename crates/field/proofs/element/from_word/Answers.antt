use mathlib.Core.Path.{sym}
use Rattle.field.proofs.Elements.{words_of_lem}
use Rattle.field.proofs.Residues.{number_word_of}
use Rattle.field.proofs.element.from_word.Goals as goal

pub returns : goal.returns
returns c = words_of_lem _ _ _ _ (sym (number_word_of _)) (sym (number_word_of 0)) (sym (number_word_of 0)) (sym (number_word_of 0))
