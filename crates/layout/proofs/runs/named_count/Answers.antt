-- `runs::named_count` meets its contract. Assumes nothing.
use native.Mathlib.Omega.{arith}
use Rattle.layout.proofs.runs.named_count.Goals as goal

pub overflow_add-result : goal.overflow_add-result
overflow_add-result c = omega (arith, c.first_count-first.ensures, c.shared_slice_known-1.given 0, c.well_formed)
