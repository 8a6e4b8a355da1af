use Prim.Native.Nat.{◌+◌, ◌*◌, ◌-◌}
use Rattle.algebra.specs.Ring.{pow}
use Rattle.field.specs.Powers.{root}
use Rattle.field.specs.Element.{F, ◌⊕◌, ◌⊖◌, ◌⊗◌, half_elem, elem_of}
use Rattle.tables.proofs.Doubling.{Turned}
use Rattle.tables.proofs.poly.widen.Given as goal

abbrev pub invariant-loop-j : goal.invariant-loop-j
invariant-loop-j l = Turned l.initial.out l.half (λ j e. half_elem ⊗ e ⊕ half_elem ⊗ e ⊗ (pow F (root (l.s + 1)) (2 * l.half - j) ⊗ elem_of l.power)) (λ j e. half_elem ⊗ e ⊖ half_elem ⊗ e ⊗ (pow F (root (l.s + 1)) (2 * l.half - j) ⊗ elem_of l.power)) l.j l.out
