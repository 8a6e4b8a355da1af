use mathlib.Core.Path.{sym, ◌∙◌}
use Rattle.field.specs.Element.{elem_of}
use Rattle.field.proofs.Elements.{words_of_lem}
use Rattle.field.proofs.Residues.{number_word_of}
use Rattle.field.proofs.element.canonical.Goals as goal

pub returns : goal.returns
unfolding elem_of
returns c =
    words_of_lem _ _ _ _ (c.reduced.ensures ∙ sym (number_word_of _)) (c.reduced-2.ensures ∙ sym (number_word_of _)) (c.reduced-3.ensures ∙ sym (number_word_of _)) (c.reduced-4.ensures ∙ sym (number_word_of _))
