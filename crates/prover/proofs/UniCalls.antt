-- The call of the fold at u_0: its plan, what its loops ask, and its returns.
use Rattle.std.proofs.Common.{◌≡◌, ℕ, ◌+◌, ◌*◌, ◌%◌, ◌^◌, ◌≤◌, Bool, true, false, not, List, length, sym, refl, ap, ◌∙◌, subst, arith}
use native.Mathlib.Nat
use borrow.Author.Tests.{not-true, not-false}
use Rattle.algebra.proofs.Powers.{two_pow-add}
use Rattle.field.specs.Element.{Elem, F, half_elem, elem_of}
use Rattle.field.specs.Powers.{root}
use Rattle.field.specs.Slice.{canonical_words}
use Rattle.std.specs.declared.result.Result.{Result}
use Rattle.std.specs.declared.result.Result.TheVariants.{Ok, Err}
use Rattle.field.specs.declared.answer.Refusal.{Refusal}
use Rattle.field.specs.declared.answer.Refusal.TheVariants.{NotCanonical}
use Rattle.field.specs.Number.{number_of, settled, refusal_of, refusals}
use Rattle.tables.specs.FoldPle.{fold_ple}
use Rattle.layout.specs.Answers.{answer_of}
use Rattle.layout.specs.Checks.{or_else, word_number}
use Rattle.layout.proofs.Firsts.{or_skip, skip}
use Rattle.layout.proofs.CheckChains.{scan_no, scan_yes}
use Rattle.prover.specs.declared.plans.Plan.{Plan}
use Rattle.prover.specs.declared.turns.Turn.{Turn}
use Rattle.prover.specs.declared.stacked_reduction.Step.{Step}
use Rattle.prover.specs.Given.{Given, Work, work, stacked}
use Rattle.prover.specs.Written.{Written}
use Rattle.prover.specs.Checked.{Checked}
use Rattle.prover.specs.RowSum.{from_words}
use Rattle.prover.specs.Slots.{table_size, Slots}
use Rattle.prover.specs.Turns.{uni_turn}
use Rattle.prover.specs.CallNumbers.{Planned, given_number, uni_words, uni_number}
use Rattle.prover.specs.Calls.{step_of, one_more, uni_values, uni_eq, uni_rot, uni_work}
use Rattle.prover.proofs.Writing.{written_whole}
use Rattle.prover.proofs.Shifts.{shifted}
use Rattle.prover.proofs.TurnLaws.{uni_turn_lem}
use Rattle.prover.proofs.UniChecks.{uni_long}
use Rattle.prover.proofs.CallsPassed.{GivenReady, UniReady, uni_passed}
use Rattle.prover.proofs.PlanReady.{given_ready, PlanFacts, plan_facts}
use Rattle.prover.proofs.Refusing.{refusal_stops, refusal_passes, refusal_first}
use Rattle.prover.proofs.CallLaws.{answered, step-refused, left_old, step_done, left_new}
use Rattle.prover.proofs.WorkBuffers.{work_is}

module _ (g : Given) (t : Turn) (matrices u : List ℕ) (w : Work) where
  -- the step and what is left in the work buffers
  abbrev pub Unified : Step → Work → Type 0
  Unified s new = (s ≡ step_of (uni_number g t matrices u w) t (one_more t)) × (new ≡ uni_work g t matrices u w)

  refused : {e : Refusal} → answer_of (uni_number g t matrices u w) ≡ Err e → {s : Step} → s ≡ answered (Err e) t → Unified s w
  unfolding uni_work
  refused h k = (step-refused _ h t (one_more t) k, work_is (left_old _ h _ w.q) (left_old _ h _ w.eq) (left_old _ h _ w.rot) refl)

  pub uni_refused : {e : Refusal} → answer_of (given_number g (uni_turn t) w) ≡ Err e → {x : Step} → x ≡ answered (Err e) t → Unified x w
  unfolding uni_number
  uni_refused h k = refused (refusal_stops _ _ h) k

  -- what the fold takes by the plan
  abbrev words_number : ℕ → ℕ
  words_number width = uni_words g.skip g.stack width g.r g.lambda matrices u w.eq

  module _ (s : Plan) (is : Planned g (given_number g (uni_turn t) w) s) where
    words_refuse : {e : Refusal} → answer_of (words_number (stacked g)) ≡ Err e → {x : Step} → x ≡ answered (Err e) t → Unified x w
    unfolding uni_number
    words_refuse h k = refused (refusal_passes _ _ is.passed h) k

    ready : GivenReady g (uni_turn t) w
    ready = given_ready g (uni_turn t) w s is

    pub facts : PlanFacts g w s
    facts = plan_facts g (uni_turn t) w s _ is ready

    pub uni_asks : (g.skip + g.stack ≤ 24) × (s.stacked ≤ 2 ^ 30)
    uni_asks = (facts.sum_few, omega (arith, facts.stacked_few))

    pub uni_calls : t.calls ≡ 2
    uni_calls = uni_turn_lem t ready.turn

    -- the values of all stack columns, as the code counts them
    abbrev values : ℕ
    values = s.stacked * 2 ^ g.stack % 18446744073709551616

    values_are : values ≡ stacked g * 2 ^ g.stack
    values_are = shifted s.stacked g.stack (omega (arith, facts.stacked_few)) (omega (arith, facts.stack_few)) ∙ ap (λ k. k * 2 ^ g.stack) is.is_stacked

    module _ (r : Result (Unit {0}) Refusal) (e : or_else (number_of r) (word_number matrices) ≡ words_number s.stacked) where
      numbered : or_else (number_of r) (word_number matrices) ≡ words_number (stacked g)
      numbered = e ∙ ap words_number is.is_stacked

      pub words_stop : {f : Refusal} → r ≡ Err f → {x : Step} → x ≡ answered (Err f) t → Unified x w
      words_stop h k = words_refuse (ap answer_of (sym numbered) ∙ refusal_first r _ h) k

      -- the matrices' words are left
      module _ {v : Unit {0}} (k : r ≡ Ok v) where
        none : number_of r ≡ 0
        none = ap number_of k

        left : word_number matrices ≡ words_number (stacked g)
        left = sym (or_skip (number_of r) _ none) ∙ numbered

        matrices_length : length matrices ≡ s.stacked * 2 ^ (g.skip + g.stack)
        matrices_length = uni_long g.skip g.stack s.stacked g.r g.lambda matrices u w.eq uni_asks.1 uni_asks.0 (ap (λ a. or_else a (word_number matrices)) (sym none) ∙ e)

        rows : 2 ^ g.skip * values ≡ s.stacked * 2 ^ (g.skip + g.stack)
        rows =
            ap (λ a. 2 ^ g.skip * a) (values_are ∙ ap (λ a. a * 2 ^ g.stack) (sym is.is_stacked)) ∙ Nat.mul_left_comm (2 ^ g.skip) s.stacked (2 ^ g.stack)
            ∙ ap (λ a. s.stacked * a) (sym (two_pow-add g.skip g.stack))

        pub ple_asks : (g.skip ≤ 10) × ((length matrices ≡ 2 ^ g.skip * values) × (length w.q ≡ 4 * values))
        ple_asks = (facts.skip_few, (matrices_length ∙ sym rows, ready.q_length ∙ ap (λ a. 4 * a) (sym values_are)))

        abbrev folded : ℕ → Elem
        folded = fold_ple F half_elem g.skip (root g.skip) (from_words matrices) (elem_of u)

        module _ {ok : Bool} {q : List ℕ} (c : Checked matrices w.q values folded ok q) where
          pub words_bad : not ok ≡ true → {x : Step} → x ≡ answered (Err NotCanonical) t → Unified x (work q w.eq w.rot w.ub)
          unfolding answer_of settled refusal_of refusals
          words_bad h d =
              let r = words_refuse (ap answer_of (sym (scan_no _ c.says h ∙ left))) d in
              (r.0, ap (λ x. work x w.eq w.rot w.ub) (c.kept (not-true ok h)) ∙ r.1)

          module _ (fine : not ok ≡ false) where
            zero : uni_number g t matrices u w ≡ 0
            unfolding uni_number
            zero = sym (skip _ _ is.passed (scan_yes _ c.says fine ∙ left))

            taken : UniReady g matrices w
            taken = (uni_passed g t matrices u w zero).1

            pub scale_asks : ((g.skip ≤ 10) × (g.stack ≤ 20) × (g.skip + g.stack ≤ 24)) × (Slots g.skip g.stack g.lists s.slots
                × ((length w.eq ≡ 4 * table_size g.skip g.stack g.lists) × ((length w.rot ≡ 4 * table_size g.skip g.stack g.lists) × ((canonical_words w.eq ≡ true) × ((length g.r ≡ 4 * (g.stack + 1)) × (canonical_words g.r ≡ true))))))
            scale_asks = ((facts.skip_few, facts.stack_few, facts.sum_few), (facts.slots_are, (ready.eq_length, (ready.rot_length, (taken.eq_words, (ready.r_length, taken.point.r_words))))))

            pub uni_done : {eq rot : List ℕ} → eq ≡ uni_eq g (elem_of u) → rot ≡ uni_rot g (elem_of u) w.eq → Unified (answered (Ok tt) (one_more t)) (work q eq rot w.ub)
            unfolding uni_work uni_values
            uni_done b d = (
              step_done _ zero t (one_more t),
              work_is (written_whole (subst (λ k. Written w.q 0 k folded q) values_are (c.done (not-false ok fine))) ready.q_length ∙ left_new _ zero _ w.q)
                  (b ∙ left_new _ zero _ w.eq) (d ∙ left_new _ zero _ w.rot) refl,
            )
