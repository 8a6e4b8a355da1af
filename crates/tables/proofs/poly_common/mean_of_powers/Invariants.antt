use mathlib.Core.Path.{◌≡◌}
use Prim.Native.Nat.{◌^◌}
use Rattle.algebra.specs.Ring.{pow}
use Rattle.algebra.specs.Sum.{product}
use Rattle.field.specs.Element.{F, ◌⊕◌, elem_of, words_of}
use Rattle.tables.proofs.poly_common.mean_of_powers.Given as goal

abbrev pub invariant-loop : goal.invariant-loop
invariant-loop l = (l.res ≡ words_of (product F l.counter (λ k. F.one ⊕ pow F (elem_of l.initial.x_pow) (2 ^ k)))) × (l.x_pow ≡ words_of (pow F (elem_of l.initial.x_pow) (2 ^ l.counter)))
