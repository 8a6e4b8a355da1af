use mathlib.Core.Path.{◌∙◌, ap}
use Rattle.field.specs.Number.{number_of}
use Rattle.legrudda.proofs.kernels.legrudda_evals_eq_hypercube.Goals as goal

pub returns : goal.returns
returns c = record { answer = c.number.ensures ∙ ap number_of c.evals_eq_hypercube.ensures.value; table = c.evals_eq_hypercube.ensures.out_after }
