use mathlib.Core.Path.{◌∙◌, ap, ap₂}
use native.Mathlib.Omega.{arith}
use Rattle.field.proofs.Elements.{elem_of_words}
use Rattle.field.specs.Element.{◌⊖◌, ◌⊗◌, elem_of}
use Rattle.tables.proofs.Spreading.{spreading_turn}
use Rattle.tables.proofs.poly.expand.Goals as goal

pub loop-j-preserved : goal.loop-j-preserved
loop-j-preserved c =
    let e = elem_of_words _ c.load-e.ensures in
    let hi = elem_of_words _ c.mul-hi.ensures ∙ ap (λ v. v ⊗ elem_of c.args.x) e in
    let lo = elem_of_words _ c.sub-lo.ensures ∙ ap₂ (λ u v. u ⊖ v) e hi in
    spreading_turn _ _ _ _ _ _ c.loop-j.invariant (omega (arith, c.loop-j-test.true)) c.requires _ _ hi lo c.store.ensures c.store-in-loop-j.ensures
