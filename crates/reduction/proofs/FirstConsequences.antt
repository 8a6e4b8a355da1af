-- What follows from demand 3's sentences on round zero, a law for each.
use mathlib.Core.Path.{◌≡◌, sym, ◌∙◌, ap, subst}
use mathlib.Core.Logic.{◌≢◌, ⊎_elim}
use mathlib.Core.Bool.{true}
use mathlib.Core.List.{List, [], ◌∷◌}
use mathlib.Core.Option.{some, some-injective}
use Prim.Native.Nat.{ℕ, ◌+◌, ◌-◌, ◌*◌, ◌^◌, ◌<◌}
use native.Mathlib.Omega.{arith}
use lib.ListN.{length}
use Rattle.field.specs.Element.{Elem, F, half_elem, ◌⊕◌}
use Rattle.field.specs.Powers.{root}
use Rattle.field.specs.Slice.{elem_at, canonical_words}
use Rattle.std.specs.declared.result.Result.TheVariants.{Ok}
use Rattle.field.proofs.ElementField.{element_discrete}
use Rattle.field.proofs.ElementWords.{length-elem_words}
use Rattle.tables.specs.Points.{coordinates, count}
use Rattle.tables.specs.OnSlices.{value_of}
use Rattle.weights.specs.Carried.{Slip}
use Rattle.weights.specs.AtField.{weighted_claims_f, first_sum_f, honest_f, true_claim_f, first_coefficient_f, weighted_truth_f}
use Rattle.weights.proofs.FirstRound.{truth_claimed}
use Rattle.weights.proofs.HonestQuadratics.{honest-sum}
use Rattle.verifier.specs.Asked.{Asked}
use Rattle.verifier.specs.Sides as Sides
use Rattle.verifier.specs.Numbers.{asked_number}
use Rattle.verifier.specs.Verdicts.{verdict}
use Rattle.prover.specs.declared.turns.Turn.{Turn}
use Rattle.prover.specs.RowSum.{from_words}
use Rattle.prover.specs.Given.{Given, Work, run, stacked}
use Rattle.prover.specs.CallNumbers.{coefficients_asked, claims_asked}
use Rattle.prover.specs.FirstCalls.{first_words, claims_words}
use Rattle.reduction.specs.Calls.{Call, State, Event, first_sent}
use Rattle.reduction.specs.Lists.{begun, Started, events, outcome, Proper, Among}
use Rattle.reduction.specs.Verdict.{head_of, judged}
use Rattle.reduction.specs.Demand.{sum_at_first, Demand3}
use Rattle.reduction.specs.Sent.{u, sent_first, sent_quadratic, honest_first, honest_quadratic, TruthTold, SameFirst}
use Rattle.reduction.specs.HonestRun.{follow, honest_tasks, Lent, HonestRun}
use Rattle.reduction.proofs.Demands.{demand}

module _ (g : Given) (t : Turn) (w : Work) (started : Started g t w) (cs : List Call) (proper : Proper g (begun g t w) cs) where
  all : Demand3 g (begun g t w) cs
  all = demand.lists g t w started cs proper

  module _ (e : Event) (among : Among e (events (begun g t w) cs)) where
    module _ (out : List ℕ) (sent : e.reply ≡ first_sent out) where
      -- a first polynomial that is returned has its length
      pub first_length : length out ≡ coefficients_asked g
      first_length = ap length (all.firsts e among out sent).words ∙ length-elem_words (2 ^ (g.skip + 1) - 1) (first_coefficient_f (run g) (from_words e.after.matrices))

      -- its sum over the subgroup is that of the true openings, column by column
      pub first_sums : first_sum_f (run g) (coordinates out 0 (count out)) ≡ weighted_truth_f (run g) (from_words e.after.matrices)
      first_sums =
          let h = all.firsts e among out sent in
          h.over_subgroup
          ∙ sym (truth_claimed F half_elem (root g.skip) (run g) (from_words e.after.matrices) (elem_at (claims_words g e.after.matrices))
          h.openings.plain h.openings.rotated)

      -- its value at every z is what the honest quadratic of the first round there sums to
      pub first_leads_on : (z : Elem) → 0 < g.stack
          → value_of out z ≡ honest_f (run g) (from_words e.after.matrices) z [] F.zero ⊕ honest_f (run g) (from_words e.after.matrices) z [] F.one
      first_leads_on z some-round =
          (all.firsts e among out sent).values z ∙ sym (honest-sum F half_elem (root g.skip) (run g) (from_words e.after.matrices) z [] some-round)

    -- from the fold at u_0 on, what was returned has the right value there
    pub value_at_u : 0 < length e.after.challenges → (out : List ℕ) → e.after.first ≡ some out
        → value_of out (head_of e.after.challenges) ≡ sum_at_first g e.after
    value_at_u drawn out returned =
        let h = all.first_at_u e among drawn in
        ap (λ xs. value_of xs (head_of e.after.challenges)) (some-injective out h.0 (sym returned ∙ h.1)) ∙ h.2

  -- claims that weigh something else are refused
  pub false-sum-refused : (out first : List ℕ) → (outcome (begun g t w) cs).openings ≡ some out → (outcome (begun g t w) cs).first ≡ some first
      → (claims observed : List ℕ) → length claims ≡ claims_asked g → canonical_words claims ≡ true → length observed ≡ length first + 8 * g.stack + 4 * stacked g
      → weighted_claims_f (run g) (elem_at claims) ≢ weighted_claims_f (run g) (elem_at (claims_words g (outcome (begun g t w) cs).matrices))
      → (verdict (judged g (outcome (begun g t w) cs) out claims first observed)).answer ≢ Ok tt
  false-sum-refused out first finished returned claims observed many below room wrong done =
      wrong ((all.own_verdicts out first finished returned claims observed many below room).0 done)

-- from every accepted start there is a run that gets its yes by itself: its own first polynomial, and the openings of the columns of its own matrices
module _ (g : Given) (t : Turn) (w : Work) (started : Started g t w) (matrices u₀ : List ℕ) (vs : List (List ℕ)) (lent : Lent g matrices u₀ vs)
    (observed : List ℕ) (room : length observed ≡ length (first_words g matrices) + 8 * g.stack + 4 * stacked g) where
  abbrev honest : HonestRun g (begun g t w) matrices u₀ vs
  honest = demand.honest g t w started matrices u₀ vs lent

  abbrev left : State
  left = outcome (begun g t w) (follow g (honest_tasks g matrices u₀ vs))

  pub own_yes : (verdict (judged g left honest.finished.0 (claims_words g matrices) (first_words g matrices) observed)).answer ≡ Ok tt
  own_yes =
      subst (λ ms. (verdict (judged g left honest.finished.0 (claims_words g ms) (first_words g matrices) observed)).answer ≡ Ok tt) honest.lent
      ((demand.lists g t w started (follow g (honest_tasks g matrices u₀ vs)) honest.proper).accepted honest.finished.0 (first_words g matrices)
      honest.finished.1 honest.first observed room)

module _ (a : Asked) (matrices : List ℕ) where
  -- a yes with true openings in which no round slips is on claims that weigh what the true ones weigh
  pub no_slip_true : TruthTold a matrices → (verdict a).answer ≡ Ok tt → (Slip (sent_first a) (honest_first a matrices) (u a) → ⊥)
      → ((j : ℕ) → j < a.stack → Slip (sent_quadratic a j) (honest_quadratic a matrices j) (elem_at a.challenges (1 + j)) → ⊥)
      → weighted_claims_f (Sides.run a) (elem_at a.claims) ≡ weighted_claims_f (Sides.run a) (true_claim_f (Sides.run a) (from_words matrices))
  no_slip_true told done first later = by (element_discrete _ _)
    where
      by : Dec (weighted_claims_f (Sides.run a) (elem_at a.claims) ≡ weighted_claims_f (Sides.run a) (true_claim_f (Sides.run a) (from_words matrices)))
          → weighted_claims_f (Sides.run a) (elem_at a.claims) ≡ weighted_claims_f (Sides.run a) (true_claim_f (Sides.run a) (from_words matrices))
      by (yes e) = e
      by (no e) = absurd (⊎_elim first (λ s. later s.0 s.1 s.2) ((demand.sent a matrices).false_claims told done e))

  -- at l_skip 0 round zero never slips
  pub none_at_zero : a.skip ≡ 0 → asked_number a ≡ 0 → ((x : Elem) × (sent_first a x ≢ honest_first a matrices x)) → (v : Elem)
      → sent_first a v ≢ honest_first a matrices v
  none_at_zero skip number differ v agree =
      let few = (demand.sent a matrices).at_most_first number differ (v ∷ []) (tt, tt) (agree, tt) in
      omega (arith, few, ap (λ l. 2 ^ (l + 1) - 2) skip)

  -- whether u_0 slips is settled before it is drawn
  pub first_settled : (b : Asked) → SameFirst a b → (x : Elem) → sent_first a x ≡ honest_first a matrices x → sent_first b x ≡ honest_first b matrices x
  first_settled b same x agree = let s = (demand.sent a matrices).settled_first b same x in sym s.0 ∙ agree ∙ s.1
