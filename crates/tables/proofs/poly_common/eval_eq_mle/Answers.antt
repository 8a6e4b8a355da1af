use mathlib.Core.Path.{◌∙◌, ap}
use Rattle.field.specs.Element.{F, words_of}
use Rattle.tables.specs.OnSlices.{eq_mle_of}
use Rattle.tables.specs.Points.{coordinates}
use Rattle.tables.specs.EqMle.{eq_mle}
use Rattle.tables.proofs.poly_common.eval_eq_mle.Goals as goal

pub returns : goal.returns
unfolding eq_mle_of
returns c = c.eq_mle_from.ensures ∙ ap (λ m. words_of (eq_mle F (coordinates c.args.x.now 0 m) (coordinates c.args.y.now 0 m))) c.shared_count-m.ensures
