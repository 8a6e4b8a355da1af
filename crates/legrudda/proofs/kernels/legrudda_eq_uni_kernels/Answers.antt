use mathlib.Core.Path.{◌∙◌, ap}
use Rattle.field.specs.Number.{number_of}
use Rattle.legrudda.proofs.kernels.legrudda_eq_uni_kernels.Goals as goal

pub returns : goal.returns
returns c = record { answer = c.number.ensures ∙ ap number_of c.eq_uni_kernels.ensures.value; table = c.eq_uni_kernels.ensures.out_after }
