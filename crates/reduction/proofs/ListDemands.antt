-- Demand 3's sentences on every list of calls, proved.
use mathlib.Core.Path.{◌≡◌, refl, sym, ◌∙◌, ap, subst, subst₂}
use mathlib.Core.Logic.{◌⊎◌, inl, inr, ◌↔◌}
use mathlib.Core.Bool.{true}
use mathlib.Core.List.{List, []}
use mathlib.Core.Option.{Option, some, none-ne-some, some-injective}
use Prim.Native.Nat.{ℕ, ◌+◌, ◌-◌, ◌*◌, ◌^◌}
use lib.ListN.{length}
use Rattle.field.specs.Element.{Elem, F}
use Rattle.field.specs.Slice.{elem_at, canonical_words}
use Rattle.std.specs.declared.result.Result.TheVariants.{Ok}
use Rattle.field.proofs.ElementWords.{length-elem_words}
use Rattle.tables.specs.Points.{coordinates, count}
use Rattle.tables.specs.OnSlices.{value_of}
use Rattle.weights.specs.Carried.{OneOrTwo}
use Rattle.weights.specs.LambdaPowers.{claims_before}
use Rattle.weights.specs.AtField.{weighted_claims_f, first_sum_f, folded_sum_f, first_coefficient_f, true_claim_f}
use Rattle.verifier.specs.Asked.{asked}
use Rattle.verifier.specs.Verdicts.{verdict}
use Rattle.prover.specs.RowSum.{from_words}
use Rattle.prover.specs.declared.turns.Turn.{Turn}
use Rattle.prover.specs.Given.{Given, Work, run, stacked, columns}
use Rattle.prover.specs.CallNumbers.{claims_asked}
use Rattle.prover.specs.FirstCalls.{first_words, claims_words}
use Rattle.reduction.specs.Calls.{Call, State, Event}
use Rattle.reduction.specs.Lists.{begun, events, outcome, Started, Proper, Among}
use Rattle.reduction.specs.Verdict.{all_words, head_of, challenge_at, Fitting, judged}
use Rattle.reduction.specs.Demand.{Demand3}
use Rattle.reduction.proofs.Stands.{Laid}
use Rattle.reduction.proofs.InsideStack.{laid_run}
use Rattle.reduction.proofs.CallNumbers.{Begun, start_passed, begun-listed}
use Rattle.reduction.proofs.TaskNumbers.{start_number_lem}
use Rattle.reduction.proofs.Invariant.{Pairs, Clock, to_pair, to_fold, over, Inv, Promise, Kept}
use Rattle.reduction.proofs.EveryList.{each_kept, left_going}
use Rattle.reduction.proofs.ReturnedWords.{canonical_elem_words}
use Rattle.reduction.proofs.FirstWords.{honest_first_lem}
use Rattle.reduction.proofs.FinishedVerdicts.{finished_verdict}

-- openings returned: every round was made, and they are the true ones
closed : {n t j m : ℕ} {o : Option (List ℕ)} {right : List ℕ} → Clock n t j m o right → (out : List ℕ) → o ≡ some out → (j ≡ n) × (m ≡ n) × (out ≡ right)
closed (to_pair a b c) out e = absurd (none-ne-some out (sym c ∙ e))
closed (to_fold a b c d) out e = absurd (none-ne-some out (sym d ∙ e))
closed {right = right} (over a b c d) out e = (b, c, some-injective out right (sym e ∙ d))

module _ (g : Given) (begun : Begun g) (laid : Laid g) (s : State) (out : List ℕ) (finished : s.openings ≡ some out) (claims coefficients observed : List ℕ)
    (fitting : Fitting g claims coefficients observed) where
  -- the verdict's sentence at challenges cs and openings xs
  abbrev Sentence : List Elem → List ℕ → Type 0
  Sentence cs xs =
      ((verdict (asked g.skip g.stack g.counts g.lists g.r g.lambda (all_words cs) claims coefficients s.pairs xs observed)).answer ≡ Ok tt)
      ↔ ((weighted_claims_f (run g) (elem_at claims) ≡ first_sum_f (run g) (coordinates coefficients 0 (count coefficients)))
      × ((value_of coefficients (head_of cs) ≡ folded_sum_f (run g) (from_words s.matrices) (head_of cs) [])
      ⊎ OneOrTwo F (challenge_at cs) g.stack))

  left-verdict : (w : Work) → Inv g w s → Sentence s.challenges out
  left-verdict w (inl f) = absurd (none-ne-some out (sym f.openings ∙ finished))
  left-verdict w (inr a) =
      let c = closed a.clock out finished in
      subst₂ Sentence (sym a.challenges) (sym c.2)
      (finished_verdict g begun laid (from_words s.matrices) a.first a.later c.0 s.pairs
      (subst (λ m. Pairs g (from_words s.matrices) a.first a.later m s.pairs) c.1 a.pairs) claims coefficients observed fitting)

-- with the list's own first polynomial the verdict is yes exactly on claims that weigh what the true ones weigh
module _ (g : Given) (begun : Begun g) (laid : Laid g) (s : State) (w : Work) (inv : Inv g w s) (out first : List ℕ) (finished : s.openings ≡ some out)
    (returned : s.first ≡ some first) where
  honest_words : first ≡ first_words g s.matrices
  honest_words = by inv
    where
      by : Inv g w s → first ≡ first_words g s.matrices
      by (inl f) = absurd (none-ne-some out (sym f.openings ∙ finished))
      by (inr a) = some-injective first (first_words g s.matrices) (sym returned ∙ a.polynomial)

  module _ (observed : List ℕ) (room : length observed ≡ length first + 8 * g.stack + 4 * stacked g) where
    own_verdict : (claims : List ℕ) → length claims ≡ claims_asked g → canonical_words claims ≡ true
        → ((verdict (judged g s out claims first observed)).answer ≡ Ok tt)
        ↔ (weighted_claims_f (run g) (elem_at claims) ≡ weighted_claims_f (run g) (elem_at (claims_words g s.matrices)))
    unfolding first_words
    own_verdict claims many below =
        let fitting : Fitting g claims first observed = record {
          claims_asked_lem = many;
          claims_words_lem = below;
          coefficients_asked_lem = ap length honest_words ∙ length-elem_words (2 ^ (g.skip + 1) - 1) (first_coefficient_f (run g) (from_words s.matrices));
          coefficients_words = ap canonical_words honest_words ∙ canonical_elem_words (2 ^ (g.skip + 1) - 1) (first_coefficient_f (run g) (from_words s.matrices));
          observed_asked = room;
        } in
        let v = left-verdict g begun laid s out finished claims first observed fitting w inv in
        let h = honest_first_lem g s.matrices laid first honest_words in (
          λ done. (v.0 done).0 ∙ h.over_subgroup,
          λ e. v.1 (e ∙ sym h.over_subgroup, inl (h.values (head_of s.challenges))),
        )

    own_yes : (verdict (judged g s out (claims_words g s.matrices) first observed)).answer ≡ Ok tt
    unfolding claims_words
    own_yes =
        (own_verdict (claims_words g s.matrices) (length-elem_words (claims_before (run g) (columns g)) (true_claim_f (run g) (from_words s.matrices)))
        (canonical_elem_words (claims_before (run g) (columns g)) (true_claim_f (run g) (from_words s.matrices)))).1 refl

module _ (g : Given) (t : Turn) (w : Work) (begins : Started g t w) (cs : List Call) (proper : Proper g (begun g t w) cs) where
  start : Begun g
  start = start_passed g w (start_number_lem g t w begins)

  laid : Laid g
  laid = laid_run g (begun-listed g start)

  pub every_list : Demand3 g (begun g t w) cs
  every_list =
      record {
        firsts = λ e a out q. subst (Promise g e) q (kept e a).reply;
        first_at_u = λ e a. (kept e a).at_u;
        pairs = λ e a one two q. subst (Promise g e) q (kept e a).reply;
        openings = λ e a out q. subst (Promise g e) q (kept e a).reply;
        refusals = λ e a. (kept e a).refusal;
        buffers = λ e a. (kept e a).buffers;
        zeros = λ e a. (kept e a).zeros;
        verdicts = λ out e claims coefficients observed fitting.
            left-verdict g start laid (outcome (begun g t w) cs) out e claims coefficients observed fitting w left;
        accepted = λ out first e q observed room. own_yes g start laid (outcome (begun g t w) cs) w left out first e q observed room;
        own_verdicts = λ out first e q claims observed many below room.
            own_verdict g start laid (outcome (begun g t w) cs) w left out first e q observed room claims many below;
      }
    where
      left : Inv g w (outcome (begun g t w) cs)
      left = left_going g laid t w begins cs proper

      kept : (e : Event) → Among e (events (begun g t w) cs) → Kept g e
      kept = each_kept g laid t w begins cs proper
