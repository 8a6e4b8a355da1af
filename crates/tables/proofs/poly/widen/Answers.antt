use mathlib.Core.Path.{◌∙◌, ap, ap₂}
use Rattle.field.proofs.Elements.{elem_of_words}
use Rattle.field.specs.Element.{◌⊕◌, ◌⊖◌, ◌⊗◌, half_elem, elem_of}
use Rattle.tables.proofs.KernelTableLoop.{power_word}
use Rattle.tables.proofs.Doubling.{turned_turn}
use Rattle.tables.proofs.poly.widen.Goals as goal

pub loop-j-preserved : goal.loop-j-preserved
loop-j-preserved c =
    let e = elem_of_words _ c.halve-e.ensures ∙ ap (λ v. half_elem ⊗ v) (elem_of_words _ c.load.ensures) in
    let y = elem_of_words _ c.scale-y.ensures ∙ ap (λ v. v ⊗ elem_of c.args.power) (power_word _ _ c.requires.s_bound c.skip_power-w.ensures) in
    let q = elem_of_words _ c.mul-q.ensures ∙ ap₂ (λ u v. u ⊗ v) e y in
    let lo = elem_of_words _ c.add-lo.ensures ∙ ap₂ (λ u v. u ⊕ v) e q in
    let hi = elem_of_words _ c.sub-hi.ensures ∙ ap₂ (λ u v. u ⊖ v) e q in
    turned_turn _ _ _ _ _ _ c.loop-j.invariant c.loop-j-test.true c.requires.half_in_bounds _ _ hi lo c.store.ensures c.store-in-loop-j.ensures
