use Rattle.std.proofs.Common.{◌≡◌, ◌*◌, ◌≤◌}
use Rattle.algebra.specs.Sum.{sum}
use Rattle.field.specs.Element.{F, ◌⊗◌, words_of}
use Rattle.field.specs.Slice.{elem_at}
use Rattle.prover.proofs.claims.kernel_sum.Given as goal

abbrev pub invariant-loop-t : goal.invariant-loop-t
invariant-loop-t l = (l.t ≤ l.n) × (l.e ≡ words_of (sum F l.t (λ t. elem_at l.k t ⊗ elem_at l.acc (l.stride * t))))
