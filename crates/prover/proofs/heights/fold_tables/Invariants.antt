use Rattle.std.proofs.Common.{◌+◌, ◌-◌, ◌/◌, ◌^◌, ◌≤◌}
use Rattle.field.specs.Element.{elem_of}
use Rattle.prover.specs.Slots.{entries, slot_start}
use Rattle.prover.specs.Blocks.{folded_words}
use Rattle.prover.proofs.Filled.{Filled}
use Rattle.prover.proofs.heights.fold_tables.Given as goal

abbrev pub invariant-loop-h : goal.invariant-loop-h
invariant-loop-h l = (l.h ≤ l.heights.l_skip + l.heights.n_stack + 1) × Filled l.heights.l_skip l.heights.lists.now l.initial.t (λ g. folded_words l.initial.t (slot_start l.heights.l_skip l.heights.lists.now g) (entries l.heights.l_skip l.heights.lists.now g / 2 ^ l.round) (elem_of l.u)) l.h l.t

abbrev pub decreases-loop-h : goal.decreases-loop-h
decreases-loop-h l = l.heights.l_skip + l.heights.n_stack + 1 - l.h
