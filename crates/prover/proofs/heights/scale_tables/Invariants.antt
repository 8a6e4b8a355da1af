use Rattle.std.proofs.Common.{◌≡◌, ℕ, ◌+◌, ◌-◌, ◌≤◌, List, length}
use Rattle.field.specs.Element.{elem_of}
use Rattle.prover.specs.Given.{given}
use Rattle.prover.proofs.HeightScales.{Scaling}
use Rattle.prover.proofs.heights.scale_tables.Given as goal

abbrev pub invariant-loop-h : goal.invariant-loop-h
invariant-loop-h l = (l.h ≤ l.heights.l_skip + l.heights.n_stack + 1) × (length l.eq ≡ length l.initial.eq) × (length l.k_rot ≡ length l.initial.k_rot) × ((counts lambda : List ℕ) → Scaling (given l.heights.l_skip l.heights.n_stack counts l.heights.lists.now l.r lambda) (elem_of l.u) l.initial.eq l.initial.k_rot l.h l.eq l.k_rot)

abbrev pub decreases-loop-h : goal.decreases-loop-h
decreases-loop-h l = l.heights.l_skip + l.heights.n_stack + 1 - l.h
