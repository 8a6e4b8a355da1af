-- What the checks of the lists and the turn leave for a call without work buffers.
use Rattle.std.specs.declared.result.Result.TheVariants.{Err}
use Rattle.std.specs.Prelude.{◌≡◌, Result, MatchResult, ℕ}
use Rattle.field.specs.declared.answer.Refusal.{Refusal}
use Rattle.layout.specs.Answers.{answer_of}
use Rattle.layout.specs.Lists.{first_count}
use Rattle.prover.specs.declared.made.Made.{Made}
use Rattle.prover.specs.Given.{Given, stacked, columns}

-- where their number is 0, what the run is made of
pub record PlannedMade (g : Given) (number : ℕ) (s : Made) : Type 0 where
  pub passed : number ≡ 0
  pub is_first : s.first ≡ first_count g.counts
  pub is_columns : s.columns ≡ columns g
  pub is_stacked : s.stacked ≡ stacked g

-- and else the refusal
abbrev pub IsMade : Given → ℕ → Result Made Refusal → Type 0
IsMade g number r = MatchResult r (PlannedMade g number) (λ e. answer_of number ≡ Err e)
