use mathlib.Core.Path.{◌≡◌}
use Prim.Native.Nat.{◌+◌, ◌-◌}
use Rattle.algebra.specs.Polynomial.{value}
use Rattle.field.specs.Element.{F, elem_of, words_of}
use Rattle.tables.specs.Points.{coordinates, count}
use Rattle.tables.proofs.poly_common.horner_eval.Given as goal

abbrev pub invariant-loop-j : goal.invariant-loop-j
invariant-loop-j l = l.acc ≡ words_of (value F (coordinates l.coeffs (0 + l.j) (count l.coeffs - l.j)) (elem_of l.x))
