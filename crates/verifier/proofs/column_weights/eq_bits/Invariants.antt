use mathlib.Core.Path.{◌≡◌}
use Prim.Native.Nat.{◌≤◌}
use Rattle.field.specs.Element.{words_of}
use Rattle.verifier.specs.RowKernels.{bits_from}
use Rattle.verifier.proofs.column_weights.eq_bits.Given as goal

abbrev pub invariant-loop-j : goal.invariant-loop-j
invariant-loop-j l = (l.j ≤ l.m) × (l.acc ≡ words_of (bits_from l.challenges l.i l.m l.spot l.j))
