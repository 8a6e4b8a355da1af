use mathlib.Core.Path.{◌≡◌, refl}
use native.Mathlib.Omega.{arith}
use borrow.Author.Rules.{rules}
use Rattle.algebra.specs.Ring.{pow}
use Rattle.field.specs.Element.{F, ◌⊗◌, half_elem, elem_of, words_of}
use Rattle.field.proofs.Folds.{counted}
use Rattle.tables.proofs.KernelLoops.{halved_never, halved_once}
use Rattle.tables.proofs.poly_common.halve_times.Goals as goal

pub returns : goal.returns
returns c =
    counted (λ i x. x ≡ words_of (pow F half_elem i ⊗ elem_of c.args.a)) (λ x i. words_of (half_elem ⊗ elem_of x)) (λ i x above e. halved_once _ i e refl) _
    (λ x i y f' q. search rules) (omega arith) (halved_never _ c.canonical.ensures) c.fold.ensures.ran
