use mathlib.Core.Path.{◌∙◌, refl, ap}
use Rattle.field.specs.Element.{◌⊗◌, elem_of, words_of}
use Rattle.field.proofs.Elements.{elem_of_words}
use Rattle.tables.proofs.KernelLoops.{eq_factor_words}
use Rattle.tables.proofs.poly_common.fn.eq_mle_from.fold.Goals as goal

pub returns : goal.returns
returns c =
    (c.mul.ensures ∙ ap (λ v. words_of (elem_of c.args.acc ⊗ v)) (elem_of_words _ (eq_factor_words _ _ c.load.ensures c.load-2.ensures c.eq_factor.ensures)), (refl, refl))
