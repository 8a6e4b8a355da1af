-- `plan_text::read` meets its contract: a byte a turn.
use mathlib.Core.Path.{◌≡◌}
use lib.ListN.{length, drop}
use Rattle.plan_text.specs.Steps.{state, steps_of}
use Rattle.plan_text.proofs.read.Given as goal

abbrev pub invariant-loop-b : goal.invariant-loop-b
invariant-loop-b l =
    (length l.words ≡ length l.initial.words) × (steps_of (state l.now l.words) (drop l.b-index l.text) ≡ steps_of (state l.initial.now l.initial.words) l.text)
