-- The answer of each number of document 01's table; 0 alone is the call that was done.
use Rattle.std.specs.Prelude.{ℕ, Result}
use Rattle.field.specs.declared.answer.Refusal.{Refusal}
use Rattle.field.specs.Number.{settled}

unfoldable pub answer_of : ℕ → Result (Unit {0}) Refusal
answer_of n = settled n tt
