-- The plan of a call of a round: the returns of `round_plan`, and what the loops of a round ask where it is not refused.
use Rattle.std.proofs.Common.{◌≡◌, ℕ, ◌+◌, ◌-◌, ◌*◌, ◌^◌, ◌≤◌, Bool, true, length, sym, refl, ap, ◌∙◌, subst, arith}
use mathlib.Core.Path.{subst⁻¹}
use Rattle.std.specs.declared.result.Result.TheVariants.{Err}
use Rattle.field.specs.declared.answer.Refusal.{Refusal}
use Rattle.layout.specs.Answers.{answer_of}
use Rattle.layout.proofs.Firsts.{skip}
use Rattle.prover.specs.declared.plans.Plan.{Plan}
use Rattle.prover.specs.declared.turns.Turn.{Turn}
use Rattle.prover.specs.Given.{Given, Work, stacked}
use Rattle.prover.specs.Words.{CanonicalFrom}
use Rattle.prover.specs.Slots.{table_size, Slots}
use Rattle.prover.specs.Turns.{in_round}
use Rattle.prover.specs.CallNumbers.{Planned, given_number, point_number, live_number, round_number}
use Rattle.prover.specs.Live.{Placed, LiveRound}
use Rattle.prover.proofs.Parts.{part_canonical}
use Rattle.prover.proofs.TurnLaws.{InRound, in_round_lem}
use Rattle.prover.proofs.CallsPassed.{GivenReady, RoundReady}
use Rattle.prover.proofs.Refusing.{refusal_stops, refusal_passes}
use Rattle.prover.proofs.PlacedPlans.{plan-placed}
use Rattle.prover.proofs.PlanReady.{given_ready, round_ready, PlanFacts, plan_facts}

-- the round of a call whose turn it is
pub round_within : (n j calls : ℕ) (t : Turn) {b : Bool} → b ≡ in_round n j calls t → b ≡ true → (1 ≤ j) × (j ≤ n)
round_within n j calls t e h = let r = in_round_lem n j calls t (sym e ∙ h) in (r.some, r.most)

-- the same plan, and the same refusal, by the turn itself
pub turned-plan : {g : Given} {b turned : Bool} (j : ℕ) (w : Work) {s : Plan} → b ≡ turned → Planned g (round_number g b j w) s → Planned g (round_number g turned j w) s
turned-plan {g} j w {s} e is = subst (λ t. Planned g (round_number g t j w) s) e is

pub turned_refusal : (g : Given) {b turned : Bool} (j : ℕ) (w : Work) {e : Refusal} → b ≡ turned → answer_of (round_number g b j w) ≡ Err e → answer_of (round_number g turned j w) ≡ Err e
turned_refusal g j w e is = ap (λ t. answer_of (round_number g t j w)) (sym e) ∙ is

-- round_plan: the plan, the point, the live part
module _ (g : Given) (turned : Bool) (j : ℕ) (w : Work) where
  abbrev number : ℕ
  number = round_number g turned j w

  pub plan-refused : {e : Refusal} → answer_of (given_number g turned w) ≡ Err e → answer_of number ≡ Err e
  unfolding round_number
  plan-refused is = refusal_stops _ _ is

  module _ (s : Plan) (is : Planned g (given_number g turned w) s) where
    pub point-refused : {e : Refusal} → answer_of (point_number g.r g.lambda) ≡ Err e → answer_of number ≡ Err e
    unfolding round_number
    point-refused h = refusal_passes _ _ is.passed (refusal_stops _ _ h)

    module _ (p : point_number g.r g.lambda ≡ 0) where
      -- the live part, by the plan's own stack columns
      live_there : {m : ℕ} → m ≡ live_number g.skip g.stack g.lists s.stacked (j - 1) w → m ≡ live_number g.skip g.stack g.lists (stacked g) (j - 1) w
      live_there e = e ∙ ap (λ k. live_number g.skip g.stack g.lists k (j - 1) w) is.is_stacked

      pub live-refused : {e : Refusal} → answer_of (live_number g.skip g.stack g.lists s.stacked (j - 1) w) ≡ Err e → answer_of number ≡ Err e
      unfolding round_number
      live-refused h = refusal_passes _ _ is.passed (refusal_passes _ _ p (ap answer_of (sym (live_there refl)) ∙ h))

      pub live-planned : live_number g.skip g.stack g.lists s.stacked (j - 1) w ≡ 0 → Planned g number s
      unfolding round_number
      live-planned z = record {
        passed = sym (skip _ _ is.passed (skip _ _ p (live_there (sym z))));
        is_first = is.is_first;
        is_columns = is.is_columns;
        is_stacked = is.is_stacked;
        is_slots = is.is_slots;
      }

    -- what the scan of the live part asks
    module _ (within : turned ≡ true → (1 ≤ j) × (j ≤ g.stack)) where
      ready : GivenReady g turned w
      ready = given_ready g turned w s is

      facts : PlanFacts g w s
      facts = plan_facts g turned w s _ is ready

      pub round_from : 1 ≤ j
      round_from = (within ready.turn).0

      pub live-asks : ((g.skip + g.stack ≤ 24) × (j - 1 ≤ g.stack) × (g.stack ≤ 20) × (s.stacked ≤ 2 ^ 30)) × (Slots g.skip g.stack g.lists s.slots
          × ((length w.q ≡ 4 * (s.stacked * 2 ^ g.stack))
          × ((length w.eq ≡ 4 * table_size g.skip g.stack g.lists) × (length w.rot ≡ 4 * table_size g.skip g.stack g.lists))))
      live-asks = (
        (facts.sum_few, omega (arith, (within ready.turn).1), facts.stack_few, omega (arith, facts.stacked_few)),
        (facts.slots_are, (facts.q_length, (ready.eq_length, ready.rot_length))),
      )

-- what the loops of a round ask
module _ (g : Given) (turned : Bool) (j : ℕ) (w : Work) (s : Plan) (is : Planned g (round_number g turned j w) s) where
  all_ready : RoundReady g turned j w
  all_ready = round_ready g turned w s j is

  pub round_planned : PlanFacts g w s
  round_planned = plan_facts g turned w s _ is all_ready.given

  pub round_placed : Placed g.skip g.stack s.first g.lists s.columns s.stacked
  round_placed = plan-placed is all_ready.given

  pub round_live : (turned ≡ true → (1 ≤ j) × (j ≤ g.stack)) → LiveRound g.skip g.stack g.lists s.stacked s.slots j w.q w.eq w.rot
  round_live within = record {
    from = (within all_ready.given.turn).0;
    to = (within all_ready.given.turn).1;
    starts = is.is_slots;
    values = subst⁻¹ (λ k. CanonicalFrom w.q 0 (k * 2 ^ (g.stack - (j - 1)))) is.is_stacked (part_canonical w.q 0 (stacked g * 2 ^ (g.stack - (j - 1))) refl refl all_ready.live.q_words);
    values_size = round_planned.q_length;
    eq_live = all_ready.live.eq_words;
    eq_size = all_ready.given.eq_length;
    rot_live = all_ready.live.rot_words;
    rot_size = all_ready.given.rot_length;
  }

  pub round_turn : (calls : ℕ) (t : Turn) → turned ≡ in_round g.stack j calls t → InRound g.stack j calls t
  round_turn calls t e = in_round_lem g.stack j calls t (sym e ∙ all_ready.given.turn)
