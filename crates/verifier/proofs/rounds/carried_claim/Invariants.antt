use mathlib.Core.Path.{◌≡◌}
use Prim.Native.Nat.{◌+◌, ◌*◌, ◌≤◌}
use Rattle.field.specs.Element.{words_of}
use Rattle.field.specs.Slice.{elem_at}
use Rattle.tables.specs.OnSlices.{value_of}
use Rattle.weights.specs.AtField.{carried_f}
use Rattle.verifier.proofs.rounds.carried_claim.Given as goal

abbrev pub invariant-loop-j : goal.invariant-loop-j
invariant-loop-j l = (l.j ≤ l.m) × (l.claim ≡ words_of (carried_f (value_of l.coefficients (elem_at l.challenges 0)) (λ i. elem_at l.pairs (2 * i)) (λ i. elem_at l.pairs (2 * i + 1)) (λ i. elem_at l.challenges (1 + i)) l.j))
