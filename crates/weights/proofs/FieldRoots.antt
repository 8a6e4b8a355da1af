-- Raised generators of the field: those of the smaller orders.
use mathlib.Core.Path.{◌≡◌, ◌∙◌, ap}
use Prim.Native.Nat.{ℕ, ◌+◌, ◌-◌, ◌^◌, ◌≤◌, min}
use native.Mathlib.Omega.{arith}
use Rattle.algebra.specs.Ring.{pow}
use Rattle.field.specs.Element.{F}
use Rattle.field.specs.Powers.{root}
use Rattle.field.proofs.Embedding.{root-raised}
use Rattle.weights.proofs.Blocks.{order_gap}

pub root_order : (l h : ℕ) → l ≤ 27 → pow F (root l) (2 ^ (l - h)) ≡ root (min l h)
root_order l h small =
    ap (λ k. pow F (root k) (2 ^ (l - h))) {x = l} {y = min l h + (l - h)} (omega (arith, order_gap l h))
    ∙ root-raised (min l h) (l - h) (omega (arith, order_gap l h))
