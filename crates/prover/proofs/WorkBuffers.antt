-- The work buffers are equal where each of the four is.
use Rattle.std.proofs.Common.{◌≡◌}
use Rattle.prover.specs.Given.{Work}

pub work_is : {a b : Work} → a.q ≡ b.q → a.eq ≡ b.eq → a.rot ≡ b.rot → a.ub ≡ b.ub → a ≡ b
work_is e f h k i = record { q = e i; eq = f i; rot = h i; ub = k i }
