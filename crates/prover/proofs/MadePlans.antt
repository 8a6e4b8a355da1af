-- The returns of `made_plan`: from the answers of the lists and the turn to the one of both; where neither refuses, every column has its place.
use Rattle.std.proofs.Common.{◌≡◌, ℕ, Bool, true, false, not, sym, ap, ◌∙◌, arith}
use mathlib.Core.Path.{subst⁻¹}
use Rattle.std.specs.declared.result.Result.TheVariants.{Ok, Err}
use Rattle.field.specs.declared.answer.Refusal.{Refusal}
use Rattle.field.specs.declared.answer.Refusal.TheVariants.{OutOfTurn}
use Rattle.field.specs.Number.{settled, refusal_of, refusals}
use Rattle.layout.specs.declared.runs.RunLists.{RunLists}
use Rattle.layout.specs.Answers.{answer_of}
use Rattle.layout.specs.Lists.{first_count, lists_number, run_lists}
use Rattle.layout.proofs.Firsts.{passed, skip, skips, stops}
use Rattle.layout.proofs.ReadRuns.{read_number, read_length, read_long, read_first, read_columns, read_stacked}
use Rattle.prover.specs.declared.made.Made.{Made}
use Rattle.prover.specs.Given.{Given}
use Rattle.prover.specs.Live.{Placed}
use Rattle.prover.specs.CallNumbers.{listed_number}
use Rattle.prover.specs.MadePlans.{PlannedMade}
use Rattle.prover.proofs.Refusing.{refusal_stops, refusal_passes, lists_refusal}
use Rattle.prover.proofs.CallsPassed.{listed-passed}
use Rattle.prover.proofs.PlacedPlans.{lists-placed}

module _ (g : Given) (turned : Bool) where
  abbrev number : ℕ
  number = listed_number g turned

  pub made-lists : {e : Refusal} → run_lists g.skip g.stack g.counts g.lists ≡ Err e → answer_of number ≡ Err e
  unfolding listed_number
  made-lists is = refusal_stops _ _ (lists_refusal g.skip g.stack g.counts g.lists is)

  module _ (s : RunLists) (is : run_lists g.skip g.stack g.counts g.lists ≡ Ok s) where
    passed_lists : lists_number g.skip g.stack g.counts g.lists ≡ 0
    passed_lists = read_number _ _ _ _ s is

    pub made_turn : not turned ≡ true → answer_of number ≡ Err OutOfTurn
    unfolding listed_number answer_of settled refusal_of refusals
    made_turn h = ap answer_of (sym (skip _ _ passed_lists (stops 8 _ _ (omega arith) h)))

    module _ (t : not turned ≡ false) where
      pub made-length : {e : Refusal} → s.length ≡ Err e → answer_of number ≡ Err e
      unfolding listed_number
      made-length h = refusal_passes _ _ passed_lists (refusal_passes _ _ (passed 8 (not turned) t) (sym (read_length _ _ _ _ s is) ∙ h))

      pub made_done : {v : Unit {0}} → s.length ≡ Ok v → PlannedMade g number (record { first = s.first; columns = s.columns; stacked = s.stacked })
      unfolding listed_number
      made_done long = record {
        passed = sym (skip _ _ passed_lists (skips 8 _ _ t (sym (read_long _ _ _ _ s is long))));
        is_first = read_first _ _ _ _ s is long;
        is_columns = read_columns _ _ _ _ s is long;
        is_stacked = read_stacked _ _ _ _ s is long;
      }

-- every column has its place
pub made-placed : {g : Given} (turned : Bool) {s : Made} → PlannedMade g (listed_number g turned) s → Placed g.skip g.stack s.first g.lists s.columns s.stacked
made-placed {g} turned {s} is =
    let ready = listed-passed g turned is.passed in
    subst⁻¹ (λ f. Placed g.skip g.stack f g.lists s.columns s.stacked) is.is_first
    (subst⁻¹ (Placed g.skip g.stack (first_count g.counts) g.lists s.columns) is.is_stacked (lists-placed ready.listed s.columns is.is_columns))
