use mathlib.Core.Path.{◌∙◌, ap}
use Rattle.field.specs.Element.{◌⊗◌, elem_of, words_of}
use Rattle.field.proofs.Elements.{elem_of_words}
use Rattle.verifier.proofs.final_sum.column_term.Goals as goal

pub returns : goal.returns
returns c = c.mul.ensures ∙ ap (λ v. words_of (v ⊗ elem_of c.args.opening)) (elem_of_words _ c.mul-b.ensures ∙ ap (λ v. v ⊗ elem_of c.args.bits) (elem_of_words _ c.mul-a.ensures))
