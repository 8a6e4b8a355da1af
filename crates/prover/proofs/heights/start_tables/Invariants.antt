use Rattle.std.proofs.Common.{◌+◌, ◌-◌, ◌≤◌}
use Rattle.algebra.specs.Multilinear.{cube_factor}
use Rattle.field.specs.Element.{F, words_of}
use Rattle.tables.specs.Points.{coordinates}
use Rattle.prover.proofs.Filled.{Filled}
use Rattle.prover.proofs.heights.start_tables.Given as goal

abbrev pub invariant-loop-h : goal.invariant-loop-h
invariant-loop-h l = (l.h ≤ l.heights.l_skip + l.heights.n_stack + 1) × Filled l.heights.l_skip l.heights.lists.now l.initial.eq (λ g x. words_of (cube_factor F (coordinates l.r 1 (g - l.heights.l_skip)) x)) l.h l.eq

abbrev pub decreases-loop-h : goal.decreases-loop-h
decreases-loop-h l = l.heights.l_skip + l.heights.n_stack + 1 - l.h
