use mathlib.Core.Path.{◌≡◌}
use Prim.Native.Nat.{◌^◌}
use Rattle.algebra.specs.Ring.{pow}
use Rattle.field.specs.Element.{F, elem_of, words_of}
use Rattle.tables.proofs.EqUniLoop.{eq_loop}
use Rattle.tables.proofs.poly_common.eval_eq_uni.Given as goal

abbrev pub invariant-loop : goal.invariant-loop
invariant-loop l = (l.res ≡ words_of (eq_loop F l.counter (elem_of l.initial.x_pow) (elem_of l.initial.y_pow))) × (l.x_pow ≡ words_of (pow F (elem_of l.initial.x_pow) (2 ^ l.counter))) × (l.y_pow ≡ words_of (pow F (elem_of l.initial.y_pow) (2 ^ l.counter)))
