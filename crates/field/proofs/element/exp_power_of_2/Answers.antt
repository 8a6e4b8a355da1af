use mathlib.Core.Path.{◌≡◌, refl}
use borrow.Author.Rules.{rules}
use Prim.Native.Nat.{◌^◌}
use native.Mathlib.Omega.{arith}
use Rattle.algebra.specs.Ring.{pow}
use Rattle.field.specs.Element.{F, ◌⊗◌, elem_of, words_of}
use Rattle.field.proofs.Folds.{counted}
use Rattle.field.proofs.Elements.{squared_never, squared_once}
use Rattle.field.proofs.element.exp_power_of_2.Goals as goal

pub returns : goal.returns
returns c =
    counted (λ i x. x ≡ words_of (pow F (elem_of c.args.a) (2 ^ i))) (λ x i. words_of (elem_of x ⊗ elem_of x)) (λ i x above e. squared_once _ i e refl) _
    (λ x i y f' q. search rules) (omega arith) (squared_never _ c.canonical.ensures) c.fold.ensures.ran
