use Rattle.std.proofs.Common.{◌+◌, ◌-◌, ◌*◌, ◌≤◌}
use Rattle.algebra.specs.Sum.{sum}
use Rattle.field.specs.Element.{F}
use Rattle.prover.specs.Sources.{run_from, cells_of}
use Rattle.prover.specs.Written.{Written}
use Rattle.prover.specs.ClassRows.{gain_of}
use Rattle.prover.proofs.first.first_polynomial.Given as goal

abbrev pub invariant-loop-order : goal.invariant-loop-order
invariant-loop-order l = (l.order ≤ l.l_skip + 1) × Written l.initial.out 0 (2 * l.rows - 1) (λ j. sum F l.order (λ o. gain_of (run_from l.source) (cells_of l.source) o j)) l.out
