-- The first polynomial and the trace columns' openings: the answer, and what each call leaves in the slice that is lent for it, refused or not.
use Rattle.std.specs.Prelude.{Result, ℕ, ◌+◌, ◌-◌, ◌^◌, List}
use Rattle.field.specs.Slice.{elem_words}
use Rattle.field.specs.declared.answer.Refusal.{Refusal}
use Rattle.layout.specs.Answers.{answer_of}
use Rattle.weights.specs.LambdaPowers.{claims_before}
use Rattle.weights.specs.AtField.{first_coefficient_f, true_claim_f}
use Rattle.prover.specs.declared.turns.Turn.{Turn}
use Rattle.prover.specs.declared.stacked_reduction.Step.{Step}
use Rattle.prover.specs.RowSum.{from_words}
use Rattle.prover.specs.Given.{Given, run, columns}
use Rattle.prover.specs.CallNumbers.{first_number, claims_number}
use Rattle.prover.specs.Calls.{step_of, one_more, leaves}

module _ (g : Given) (matrices : List ℕ) where
  -- the honest first polynomial's coefficients, the constant one first
  unfoldable pub first_words : List ℕ
  first_words = elem_words (2 ^ (g.skip + 1) - 1) (first_coefficient_f (run g) (from_words matrices))

  -- the true claims, in the verdict's order
  unfoldable pub claims_words : List ℕ
  claims_words = elem_words (claims_before (run g) (columns g)) (true_claim_f (run g) (from_words matrices))

unfoldable pub first_out : Given → Turn → List ℕ → List ℕ → List ℕ
first_out g t matrices out = leaves (first_number g t matrices out) (first_words g matrices) out

abbrev pub first_step : Given → Turn → List ℕ → List ℕ → Step
first_step g t matrices out = step_of (first_number g t matrices out) t (one_more t)

unfoldable pub claims_out : Given → List ℕ → List ℕ → List ℕ
claims_out g matrices out = leaves (claims_number g matrices out) (claims_words g matrices) out

abbrev pub claims_answer : Given → List ℕ → List ℕ → Result (Unit {0}) Refusal
claims_answer g matrices out = answer_of (claims_number g matrices out)
