-- The call of the openings: its plan, what its copy asks, and its three returns.
use Rattle.std.proofs.Common.{◌≡◌, ℕ, ◌*◌, ◌^◌, ◌≤◌, List, length, sym, refl, ap, ◌∙◌, subst, arith}
use Rattle.field.specs.Slice.{elem_at}
use Rattle.std.specs.declared.result.Result.TheVariants.{Ok, Err}
use Rattle.field.specs.declared.answer.Refusal.{Refusal}
use Rattle.layout.specs.Answers.{answer_of}
use Rattle.layout.proofs.Firsts.{skip}
use Rattle.prover.specs.declared.plans.Plan.{Plan}
use Rattle.prover.specs.declared.turns.Turn.{Turn}
use Rattle.prover.specs.declared.stacked_reduction.Step.{Step}
use Rattle.prover.specs.Given.{Given, Work, stacked}
use Rattle.prover.specs.Words.{CanonicalFrom}
use Rattle.prover.specs.Written.{Written}
use Rattle.prover.specs.Live.{Held}
use Rattle.prover.specs.Turns.{openings_turn}
use Rattle.prover.specs.CallNumbers.{Planned, given_number, openings_words, openings_number}
use Rattle.prover.specs.Calls.{step_of, one_more, openings_out}
use Rattle.prover.proofs.Writing.{written_whole}
use Rattle.prover.proofs.Parts.{part_canonical}
use Rattle.prover.proofs.TurnLaws.{openings_turn_lem}
use Rattle.prover.proofs.CallsPassed.{OpeningsReady, openings-passed}
use Rattle.prover.proofs.PlanReady.{given_ready, PlanFacts, plan_facts}
use Rattle.prover.proofs.Refusing.{refusal_stops, refusal_passes}
use Rattle.prover.proofs.CallLaws.{answered, step-refused, left_old, step_done, left_new}

module _ (g : Given) (t : Turn) (out : List ℕ) (w : Work) where
  -- the step and what is left in the slice of the openings
  abbrev pub Opened : Step → List ℕ → Type 0
  Opened s new = (s ≡ step_of (openings_number g t out w) t (one_more t)) × (new ≡ openings_out g t out w)

  refused : {e : Refusal} → answer_of (openings_number g t out w) ≡ Err e → {s : Step} → s ≡ answered (Err e) t → Opened s out
  unfolding openings_out
  refused h k = (step-refused _ h t (one_more t) k, left_old _ h _ out)

  pub openings-refused : {e : Refusal} → answer_of (given_number g (openings_turn g.stack t) w) ≡ Err e → {x : Step} → x ≡ answered (Err e) t → Opened x out
  unfolding openings_number
  openings-refused h k = refused (refusal_stops _ _ h) k

  module _ (s : Plan) (is : Planned g (given_number g (openings_turn g.stack t) w) s) where
    facts : PlanFacts g w s
    facts = plan_facts g (openings_turn g.stack t) w s _ is (given_ready g (openings_turn g.stack t) w s is)

    pub openings_ask : (s.stacked ≤ 2 ^ 30) × (4 * s.stacked ≤ length w.q)
    openings_ask = (omega (arith, facts.stacked_few), facts.openings_room)

    pub openings-calls : t.calls ≤ 43
    openings-calls = omega (arith, openings_turn_lem g.stack t (given_ready g (openings_turn g.stack t) w s is).turn, facts.stack_few)

    numbered : openings_words s.stacked g.r g.lambda (length out) w.q ≡ openings_words (stacked g) g.r g.lambda (length out) w.q
    numbered = ap (λ k. openings_words k g.r g.lambda (length out) w.q) is.is_stacked

    pub words_refused : {e : Refusal} → answer_of (openings_words s.stacked g.r g.lambda (length out) w.q) ≡ Err e → {x : Step} → x ≡ answered (Err e) t → Opened x out
    unfolding openings_number
    words_refused h k = refused (refusal_passes _ _ is.passed (ap answer_of (sym numbered) ∙ h)) k

    module _ (k : openings_words s.stacked g.r g.lambda (length out) w.q ≡ 0) where
      zero : openings_number g t out w ≡ 0
      unfolding openings_number
      zero = sym (skip _ _ is.passed (sym k ∙ numbered))

      ready : OpeningsReady g (length out) w
      ready = (openings-passed g t out w zero).1

      pub copy_asks : (4 * s.stacked ≤ length out) × Held w.q 0 s.stacked
      copy_asks = (
        omega (arith, ready.out_length, is.is_stacked),
        record { room = omega (arith, facts.openings_room); below = subst (CanonicalFrom w.q 0) (sym is.is_stacked) (part_canonical w.q 0 (stacked g) refl refl ready.q_words) },
      )

      pub openings_done : {new : List ℕ} → Written out 0 s.stacked (elem_at w.q) new → Opened (answered (Ok tt) (one_more t)) new
      unfolding openings_out
      openings_done {new} written =
          let whole : Written out 0 (stacked g) (elem_at w.q) new = subst (λ n. Written out 0 n (elem_at w.q) new) is.is_stacked written in
          (step_done _ zero t (one_more t), written_whole whole ready.out_length ∙ left_new _ zero _ out)
