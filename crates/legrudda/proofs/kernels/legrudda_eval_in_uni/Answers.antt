use mathlib.Core.Path.{◌∙◌, ap}
use Prim.Native.Nat.{min}
use mir.Facts.{to_z-of_z}
use Rattle.field.specs.Element.{elem_of, words_of}
use Rattle.tables.specs.AtField.{in_uni_f}
use Rattle.legrudda.proofs.kernels.legrudda_eval_in_uni.Goals as goal

pub returns : goal.returns
returns c = c.eval_in_uni.ensures ∙ ap (λ n. words_of (in_uni_f (min c.args.l_skip 10) n (elem_of c.args.z.words))) (to_z-of_z c.ranges.n)
