-- The call of start: its plan, what its loops ask, and its three returns.
use Rattle.std.proofs.Common.{◌≡◌, ℕ, ◌+◌, ◌*◌, ◌/◌, ◌%◌, ◌^◌, ◌≤◌, true, List, length, sym, ap, ◌∙◌, subst, arith}
use Rattle.field.specs.Element.{Elem, F, elem_of}
use Rattle.field.specs.Canonical.{Canonical}
use Rattle.field.specs.Slice.{elem_words, canonical_words}
use Rattle.std.specs.declared.result.Result.TheVariants.{Ok, Err}
use Rattle.field.specs.declared.answer.Refusal.{Refusal}
use Rattle.layout.specs.Answers.{answer_of}
use Rattle.layout.proofs.Firsts.{skip}
use Rattle.prover.specs.declared.plans.Plan.{Plan}
use Rattle.prover.specs.declared.turns.Turn.{Turn}
use Rattle.prover.specs.declared.stacked_reduction.Step.{Step}
use Rattle.prover.specs.Given.{Given, Work, work, stacked}
use Rattle.prover.specs.Written.{Written}
use Rattle.prover.specs.Slots.{table_size, Slots}
use Rattle.prover.specs.Turns.{after}
use Rattle.prover.specs.CallNumbers.{Planned, given_number, point_number, start_number}
use Rattle.prover.specs.Calls.{step_of, start_values, start_eq, start_weights, start_work}
use Rattle.prover.proofs.Numbers.{four, elem-zero, elem_one}
use Rattle.prover.proofs.Writing.{written_whole, written_cong}
use Rattle.prover.proofs.Shifts.{shifted}
use Rattle.prover.proofs.CallsPassed.{GivenReady, start_passed}
use Rattle.prover.proofs.PlanReady.{given_ready, PlanFacts, plan_facts}
use Rattle.prover.proofs.Refusing.{refusal_stops, refusal_passes}
use Rattle.prover.proofs.CallLaws.{answered, step-refused, left_old, step_done, left_new}
use Rattle.prover.proofs.WorkBuffers.{work_is}

-- a whole buffer of one element
pub whole_of : {old new : List ℕ} (n m : ℕ) (e : List ℕ) (x : Elem) → elem_of e ≡ x → n ≡ m → length old ≡ 4 * m → Written old 0 n (λ i. elem_of e) new → new ≡ elem_words m (λ i. x)
whole_of {old} {new} n m e x ex en size s =
    written_whole (written_cong (subst (λ k. Written old 0 k (λ i. elem_of e) new) en s) (λ i l. ex)) size

pub zeros_canonical : Canonical (four 0 0 0 0)
zeros_canonical = record { w0 = omega arith; w1 = omega arith; w2 = omega arith; w3 = omega arith }

module _ (g : Given) (t : Turn) (w : Work) where
  -- the step and what is left in the work buffers
  abbrev pub Started : Step → Work → Type 0
  Started s new = (s ≡ step_of (start_number g w) t (after 1)) × (new ≡ start_work g w)

  refused : {e : Refusal} → answer_of (start_number g w) ≡ Err e → {s : Step} → s ≡ answered (Err e) t → Started s w
  unfolding start_work
  refused h k = (step-refused _ h t (after 1) k, work_is (left_old _ h _ w.q) (left_old _ h _ w.eq) (left_old _ h _ w.rot) (left_old _ h _ w.ub))

  pub start_refused : {e : Refusal} → answer_of (given_number g true w) ≡ Err e → {x : Step} → x ≡ answered (Err e) t → Started x w
  unfolding start_number
  start_refused h k = refused (refusal_stops _ _ h) k

  module _ (s : Plan) (is : Planned g (given_number g true w) s) where
    ready : GivenReady g true w
    ready = given_ready g true w s is

    pub facts : PlanFacts g w s
    facts = plan_facts g true w s _ is ready

    -- the values of all stack columns, as the code counts them
    abbrev values : ℕ
    values = s.stacked * 2 ^ g.stack % 18446744073709551616

    pub values_are : values ≡ stacked g * 2 ^ g.stack
    values_are = shifted s.stacked g.stack (omega (arith, facts.stacked_few)) (omega (arith, facts.stack_few)) ∙ ap (λ k. k * 2 ^ g.stack) is.is_stacked

    pub values-room : 4 * (0 + values) ≤ length w.q
    values-room = omega (arith, values_are, ready.q_length)

    pub ub_room : 4 * (0 + s.columns) ≤ length w.ub
    ub_room = omega (arith, facts.ub_length)

    pub point_stops : {e : Refusal} → answer_of (point_number g.r g.lambda) ≡ Err e → {x : Step} → x ≡ answered (Err e) t → Started x w
    unfolding start_number
    point_stops h k = refused (refusal_passes _ _ is.passed h) k

    module _ (k : point_number g.r g.lambda ≡ 0) where
      zero : start_number g w ≡ 0
      unfolding start_number
      zero = sym (skip _ _ is.passed (sym k))

      pub tables-asks : ((g.stack ≤ 20) × (g.skip + g.stack ≤ 24)) × (Slots g.skip g.stack g.lists s.slots
          × ((length g.r ≡ 4 * (g.stack + 1)) × ((canonical_words g.r ≡ true) × (length w.eq ≡ 4 * table_size g.skip g.stack g.lists))))
      tables-asks = ((facts.stack_few, facts.sum_few), (facts.slots_are, (ready.r_length, ((start_passed g w zero).1.r_words, ready.eq_length))))

      pub start_done : {q eq rot ub : List ℕ} → Written w.q 0 values (λ i. elem_of (four 0 0 0 0)) q → eq ≡ start_eq g.skip g.stack g.lists g.r
          → Written w.rot 0 (length w.rot / 4) (λ i. elem_of (four 0 0 0 0)) rot → Written w.ub 0 s.columns (λ i. elem_of (four 1 0 0 0)) ub
          → Started (answered (Ok tt) (after 1)) (work q eq rot ub)
      unfolding start_work start_values start_weights
      start_done a b c d = (
        step_done _ zero t (after 1),
        work_is (whole_of _ _ _ F.zero elem-zero values_are ready.q_length a ∙ left_new _ zero _ w.q) (b ∙ left_new _ zero _ w.eq)
            (whole_of _ _ _ F.zero elem-zero (omega (arith, ready.rot_length)) ready.rot_length c ∙ left_new _ zero _ w.rot)
            (whole_of _ _ _ F.one elem_one facts.columns_are ready.ub_length d ∙ left_new _ zero _ w.ub),
      )
