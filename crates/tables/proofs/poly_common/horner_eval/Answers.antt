use mathlib.Core.Path.{◌∙◌, ap, sym}
use native.Mathlib.Nat.{zero-add}
use Rattle.algebra.specs.Polynomial.{value}
use Rattle.field.specs.Slice.{elem_at}
use Rattle.field.specs.Element.{F, elem_of, words_of}
use Rattle.tables.specs.OnSlices.{value_of}
use Rattle.tables.proofs.PointLaws.{coordinates_front, coordinates_end, coordinates_whole, value_none, value_front}
use Rattle.tables.proofs.poly_common.horner_eval.Goals as goal

pub loop-j-init : goal.loop-j-init
loop-j-init c = value_none _ (coordinates_end _ 0 _) c.from_word-acc.ensures

pub loop-j-preserved : goal.loop-j-preserved
loop-j-preserved c =
    value_front _ _ (coordinates_front _ 0 _ _ c.loop-j-test.true c.loop-j.auto.j) c.loop-j.invariant c.mul-a.ensures
    (c.load-c.ensures ∙ ap (λ k. words_of (elem_at c.args.coeffs.now k)) (sym (zero-add _))) c.add-next.ensures

pub returns : goal.returns
unfolding value_of
returns c = c.loop-j.invariant ∙ ap (λ l. words_of (value F l (elem_of c.args.x))) (coordinates_whole _ 0 _ _ c.loop-j-test.false)
