-- The calls without work buffers, the first polynomial and the trace columns' openings: their plan, what their loops ask, and their returns.
use Rattle.std.proofs.Common.{◌≡◌, ℕ, ◌+◌, ◌-◌, ◌*◌, ◌^◌, ◌≤◌, Bool, true, List, length, sym, ap, ◌∙◌, ap₂, arith}
use Rattle.field.specs.Canonical.{Canonical}
use Rattle.field.specs.Slice.{elem_words, canonical_words}
use Rattle.field.specs.declared.answer.Refusal.{Refusal}
use Rattle.std.specs.declared.result.Result.{Result}
use Rattle.std.specs.declared.result.Result.TheVariants.{Ok, Err}
use Rattle.field.specs.Number.{settled}
use Rattle.field.proofs.FourWords.{four_canonical}
use Rattle.layout.specs.Answers.{answer_of}
use Rattle.layout.specs.Walked.{Walked}
use Rattle.layout.proofs.Firsts.{skip}
use Rattle.layout.proofs.ColumnWalks.{columns_few}
use Rattle.weights.specs.LambdaPowers.{claims_before}
use Rattle.weights.specs.RunOf.{run_of}
use Rattle.weights.specs.AtField.{first_coefficient_f, true_claim_f}
use Rattle.weights.proofs.ClaimCounts.{claims-within}
use Rattle.prover.specs.declared.made.Made.{Made}
use Rattle.prover.specs.declared.turns.Turn.{Turn}
use Rattle.prover.specs.declared.stacked_reduction.Step.{Step}
use Rattle.prover.specs.Given.{Given, stacked}
use Rattle.prover.specs.RowSum.{from_words}
use Rattle.prover.specs.Live.{Placed}
use Rattle.prover.specs.Turns.{first_turn}
use Rattle.prover.specs.CallNumbers.{listed_number, made_words, made_number, coefficients_asked, claims_asked, first_number, claims_number}
use Rattle.prover.specs.MadePlans.{PlannedMade}
use Rattle.prover.specs.Calls.{one_more}
use Rattle.prover.specs.FirstCalls.{first_words, claims_words, first_step, first_out, claims_answer, claims_out}
use Rattle.prover.proofs.TurnLaws.{first_turn_lem}
use Rattle.prover.proofs.CallsPassed.{MadeReady, listed-passed, made-passed}
use Rattle.prover.proofs.MadePlans.{made-placed}
use Rattle.prover.proofs.Refusing.{refusal_stops, refusal_passes}
use Rattle.prover.proofs.CallLaws.{answered, step-refused, left_old, step_done, left_new}

-- of either call: the answer of its plan, then that of what it takes
module _ (g : Given) (turned : Bool) (matrices : List ℕ) (out : ℕ) where
  plan_stops : (asked : ℕ) {e : Refusal} → answer_of (listed_number g turned) ≡ Err e → answer_of (made_number g turned asked matrices out) ≡ Err e
  unfolding made_number
  plan_stops asked h = refusal_stops _ _ h

  module _ (s : Made) (is : PlannedMade g (listed_number g turned) s) where
    placed : Placed g.skip g.stack s.first g.lists s.columns s.stacked
    placed = made-placed turned is

    asks : (g.skip + g.stack ≤ 24) × (s.stacked ≤ 2 ^ 30)
    asks = (placed.sum, omega (arith, placed.few))

    module _ {asked asks : ℕ} (same : asks ≡ asked) where
      -- by the plan's own stack columns
      abbrev there : ℕ
      there = made_words g.skip g.stack s.stacked asks g.r g.lambda matrices out

      numbered : there ≡ made_words g.skip g.stack (stacked g) asked g.r g.lambda matrices out
      numbered = ap₂ (λ w a. made_words g.skip g.stack w a g.r g.lambda matrices out) is.is_stacked same

      words_stop : {e : Refusal} → answer_of there ≡ Err e → answer_of (made_number g turned asked matrices out) ≡ Err e
      unfolding made_number
      words_stop h = refusal_passes _ _ is.passed (ap answer_of (sym numbered) ∙ h)

      module _ (k : there ≡ 0) where
        zero : made_number g turned asked matrices out ≡ 0
        unfolding made_number
        zero = sym (skip _ _ is.passed (sym k ∙ numbered))

        ready : MadeReady g asked matrices out
        ready = (made-passed g turned asked matrices out zero).1

        matrices-long : length matrices ≡ s.stacked * 2 ^ (g.skip + g.stack)
        matrices-long = ready.matrices_length ∙ ap (λ w. w * 2 ^ (g.skip + g.stack)) (sym is.is_stacked)

-- the first polynomial
module _ (g : Given) (t : Turn) (matrices out : List ℕ) where
  -- the step and what is left in the slice
  abbrev pub First : Step → List ℕ → Type 0
  First x new = (x ≡ first_step g t matrices out) × (new ≡ first_out g t matrices out)

  first_no : {e : Refusal} → answer_of (first_number g t matrices out) ≡ Err e → {x : Step} → x ≡ answered (Err e) t → First x out
  unfolding first_out
  first_no h k = (step-refused _ h t (one_more t) k, left_old _ h _ out)

  pub first_refused : {e : Refusal} → answer_of (listed_number g (first_turn t)) ≡ Err e → {x : Step} → x ≡ answered (Err e) t → First x out
  first_refused h k = first_no (plan_stops g (first_turn t) matrices (length out) (coefficients_asked g) h) k

  module _ (s : Made) (is : PlannedMade g (listed_number g (first_turn t)) s) where
    pub first_skip : g.skip ≤ 10
    first_skip = (placed g (first_turn t) matrices (length out) s is).limit

    pub first_plan : (g.skip + g.stack ≤ 24) × (s.stacked ≤ 2 ^ 30)
    first_plan = asks g (first_turn t) matrices (length out) s is

    pub first_calls : t.calls ≤ 43
    first_calls = omega (arith, first_turn_lem t (listed-passed g (first_turn t) is.passed).turn)

    module _ {asked : ℕ} (same : asked ≡ coefficients_asked g) where
      pub first_stops : {e : Refusal} → answer_of (made_words g.skip g.stack s.stacked asked g.r g.lambda matrices (length out)) ≡ Err e → {x : Step} → x ≡ answered (Err e) t → First x out
      first_stops h k = first_no (words_stop g (first_turn t) matrices (length out) s is same h) k

      module _ (k : made_words g.skip g.stack s.stacked asked g.r g.lambda matrices (length out) ≡ 0) where
        first_zero : first_number g t matrices out ≡ 0
        first_zero = zero g (first_turn t) matrices (length out) s is same k

        taken : MadeReady g (coefficients_asked g) matrices (length out)
        taken = ready g (first_turn t) matrices (length out) s is same k

        pub first_asks : Placed g.skip g.stack s.first g.lists s.columns s.stacked × ((length g.r ≡ 4 * (g.stack + 1))
            × ((canonical_words g.r ≡ true) × (Canonical g.lambda × ((length matrices ≡ s.stacked * 2 ^ (g.skip + g.stack)) × (length out ≡ 4 * (2 ^ (g.skip + 1) - 1))))))
        first_asks = (
          placed g (first_turn t) matrices (length out) s is,
          (
            taken.r_length,
            (
              taken.point.r_words,
              (four_canonical g.lambda taken.point.lambda_words, (matrices-long g (first_turn t) matrices (length out) s is same k, taken.out_length)),
            ),
          ),
        )

        module _ {new : List ℕ}
            (made : new ≡ elem_words (2 ^ (g.skip + 1) - 1) (first_coefficient_f (run_of g.skip g.stack s.first g.lists g.r g.lambda) (from_words matrices))) where
          pub first_done : {x : Step} → x ≡ answered (Ok tt) (one_more t) → First x new
          unfolding first_out first_words
          first_done d = (
            d ∙ step_done _ first_zero t (one_more t),
            made
                ∙ ap (λ f. elem_words (2 ^ (g.skip + 1) - 1) (first_coefficient_f (run_of g.skip g.stack f g.lists g.r g.lambda) (from_words matrices))) is.is_first
                ∙ left_new _ first_zero _ out,
          )

-- the trace columns' openings
module _ (g : Given) (matrices out : List ℕ) where
  -- the answer and what is left in the slice
  abbrev pub Claims : Result (Unit {0}) Refusal → List ℕ → Type 0
  Claims x new = (x ≡ claims_answer g matrices out) × (new ≡ claims_out g matrices out)

  claims_no : {e : Refusal} → answer_of (claims_number g matrices out) ≡ Err e → {x : Result (Unit {0}) Refusal} → x ≡ Err e → Claims x out
  unfolding claims_out
  claims_no h k = (k ∙ sym h, left_old _ h _ out)

  pub claims-refused : {e : Refusal} → answer_of (listed_number g true) ≡ Err e → {x : Result (Unit {0}) Refusal} → x ≡ Err e → Claims x out
  claims-refused h k = claims_no (plan_stops g true matrices (length out) (claims_asked g) h) k

  module _ (s : Made) (is : PlannedMade g (listed_number g true) s) where
    pub claims-plan : (g.skip + g.stack ≤ 24) × (s.stacked ≤ 2 ^ 30)
    claims-plan = asks g true matrices (length out) s is

    -- the run by the plan's own first commitment
    abbrev planned : List ℕ → List ℕ → ℕ
    planned point lambda = claims_before (run_of g.skip g.stack s.first g.lists point lambda) s.columns

    module _ {count : ℕ} (counts : Walked g.skip g.stack s.first g.lists s.columns → (point lambda : List ℕ) → count ≡ planned point lambda) where
      counted : (lambda : List ℕ) → count ≡ planned g.r lambda
      counted = counts (placed g true matrices (length out) s is).walked g.r

      pub claims_few : count ≤ 33677312
      claims_few = omega (
        arith,
        counted g.lambda,
        claims-within (run_of g.skip g.stack s.first g.lists g.r g.lambda) s.columns,
        columns_few (placed g true matrices (length out) s is).walked,
      )

      same : 4 * count ≡ claims_asked g
      same =
          ap (λ k. 4 * k)
          (counted g.lambda ∙ ap₂ (λ f k. claims_before (run_of g.skip g.stack f g.lists g.r g.lambda) k) is.is_first is.is_columns)

      pub claims_stop : {e : Refusal} → answer_of (made_words g.skip g.stack s.stacked (4 * count) g.r g.lambda matrices (length out)) ≡ Err e
          → {x : Result (Unit {0}) Refusal} → x ≡ Err e → Claims x out
      claims_stop h k = claims_no (words_stop g true matrices (length out) s is same h) k

      module _ (k : made_words g.skip g.stack s.stacked (4 * count) g.r g.lambda matrices (length out) ≡ 0) where
        claims_zero : claims_number g matrices out ≡ 0
        claims_zero = zero g true matrices (length out) s is same k

        claims-taken : MadeReady g (claims_asked g) matrices (length out)
        claims-taken = ready g true matrices (length out) s is same k

        pub claims_ask : Placed g.skip g.stack s.first g.lists s.columns s.stacked × ((length g.r ≡ 4 * (g.stack + 1))
            × ((canonical_words g.r ≡ true) × ((length matrices ≡ s.stacked * 2 ^ (g.skip + g.stack)) × ((lambda : List ℕ) → length out ≡ 4 * planned g.r lambda))))
        claims_ask = (
          placed g true matrices (length out) s is,
          (
            claims-taken.r_length,
            (
              claims-taken.point.r_words,
              (matrices-long g true matrices (length out) s is same k, λ lambda. claims-taken.out_length ∙ sym same ∙ ap (λ k. 4 * k) (counted lambda)),
            ),
          ),
        )

        module _ {new : List ℕ}
            (made : (lambda : List ℕ) → new ≡ elem_words (planned g.r lambda) (true_claim_f (run_of g.skip g.stack s.first g.lists g.r lambda) (from_words matrices))) where
          pub claims_done : Claims (Ok tt) new
          unfolding claims_out claims_words answer_of settled
          claims_done = (
            ap answer_of (sym claims_zero),
            made g.lambda
                ∙ ap₂ (λ f k. elem_words (claims_before (run_of g.skip g.stack f g.lists g.r g.lambda) k) (true_claim_f (run_of g.skip g.stack f g.lists g.r g.lambda) (from_words matrices)))
                is.is_first is.is_columns
                ∙ left_new _ claims_zero _ out,
          )
