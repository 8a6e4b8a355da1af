-- Any first polynomial and any pairs: with true openings a yes means that the value at u_0 is right or that some round slips; and on claims that weigh
-- something false that some round slips, round zero included.
use mathlib.Core.Path.{◌≡◌, refl, sym, ◌∙◌, ap, ap₂, subst}
use mathlib.Core.Logic.{◌≢◌, ◌⊎◌, inl, inr, ⊎_elim}
use mathlib.Core.List.{List, []}
use Prim.Native.Nat.{ℕ, ◌+◌, ◌*◌, ◌<◌, ◌≤◌}
use native.Mathlib.Omega.{arith}
use lib.ListN.{length, take}
use Rattle.algebra.specs.Polynomial.{All, Distinct}
use Rattle.algebra.proofs.Lists.{get_d_listed, listed_cong}
use Rattle.algebra.proofs.Agreements.{agree_at_most}
use Rattle.field.specs.Element.{Elem, F, half_elem}
use Rattle.field.specs.Powers.{root}
use Rattle.field.specs.Slice.{elem_at}
use Rattle.std.specs.declared.result.Result.TheVariants.{Ok}
use Rattle.field.proofs.ElementField.{element_domain}
use Rattle.field.proofs.Embedding.{half_two}
use Rattle.tables.specs.OnSlices.{value_of}
use Rattle.tables.proofs.PointLaws.{coordinates-length}
use Rattle.weights.specs.Carried.{sent, sent_at, Slip}
use Rattle.weights.specs.AtField.{weighted_claims_f, true_claim_f, folded_sum_f, honest_f, true_opening_f, final_sum_f, carried_f}
use Rattle.weights.proofs.HonestQuadratics.{honest_degree}
use Rattle.weights.proofs.AnyPairs.{sent_degree}
use Rattle.weights.proofs.RunRounds.{challenge}
use Rattle.weights.proofs.FieldRuns.{field_verdict_any}
use Rattle.verifier.specs.Asked.{Asked}
use Rattle.verifier.specs.Sides as Sides
use Rattle.verifier.specs.Verdicts.{verdict}
use Rattle.verifier.proofs.Yes.{yes_exactly}
use Rattle.verifier.proofs.ShapeLaws.{asked_ready}
use Rattle.prover.specs.RowSum.{from_words}
use Rattle.prover.specs.Given.{Given, given}
use Rattle.reduction.specs.Sent.{u, us, sent_first, sent_quadratic, honest_first, honest_quadratic, TruthTold, SameBefore, SentPairs}
use Rattle.reduction.proofs.InsideStack.{laid_run}
use Rattle.reduction.proofs.BufferLaws.{take-listed}
use Rattle.reduction.proofs.CarriedClaims.{carried_cong, final_sum_cong}
use Rattle.reduction.proofs.FirstSlips.{same_runs, first_differ, first_few, first_settles}

module _ (a : Asked) (matrices : List ℕ) where
  -- what a run with these lists would be given
  abbrev g : Given
  g = given a.skip a.stack a.counts a.lists a.r a.lambda

  abbrev p : ℕ → Elem
  p j = elem_at a.pairs (2 * j)

  abbrev q : ℕ → Elem
  q j = elem_at a.pairs (2 * j + 1)

  abbrev c : ℕ → Elem
  c j = elem_at a.challenges (1 + j)

  -- the challenges, as a list and one by one
  same : (j : ℕ) → j < a.stack → challenge F (us a) j ≡ c j
  same j h = get_d_listed a.stack (λ j. elem_at a.challenges (1 + j)) j F.zero h

  module _ (trues : TruthTold a matrices) (yes : (verdict a).answer ≡ Ok tt) where
    last : carried_f (value_of a.coefficients (u a)) p q (challenge F (us a)) a.stack
        ≡ final_sum_f (Sides.run a) (u a) (us a) (true_opening_f (Sides.run a) (from_words matrices) (u a) (us a))
    unfolding Sides.claimed Sides.final_sum
    last =
        let y = (yes_exactly a).0 yes in
        carried_cong F half_elem (value_of a.coefficients (u a)) a.stack (λ j h. refl) (λ j h. refl) same ∙ y.2
        ∙ final_sum_cong g (laid_run g (asked_ready a y.0).listed) (u a) (us a) trues

    slips : (value_of a.coefficients (u a) ≡ folded_sum_f (Sides.run a) (from_words matrices) (u a) [])
        ⊎ ((j : ℕ) × (j < a.stack) × Slip (sent_quadratic a j) (honest_quadratic a matrices j) (c j))
    unfolding sent_at
    slips =
        by (field_verdict_any (Sides.run a) (from_words matrices) (u a) (us a) (coordinates-length a.challenges 1 a.stack)
        (value_of a.coefficients (u a)) p q last)
      where
        first : Elem
        first = value_of a.coefficients (u a)

        by : (first ≡ folded_sum_f (Sides.run a) (from_words matrices) (u a) [])
            ⊎ ((j : ℕ) × (j < a.stack) × Slip (sent_at F half_elem first p q (challenge F (us a)) j) (honest_quadratic a matrices j) (challenge F (us a) j))
            → (first ≡ folded_sum_f (Sides.run a) (from_words matrices) (u a) [])
            ⊎ ((j : ℕ) × (j < a.stack) × Slip (sent_quadratic a j) (honest_quadratic a matrices j) (c j))
        by (inl e) = inl e
        by (inr (j, h, s)) =
            let e : carried_f first p q (challenge F (us a)) j ≡ carried_f first p q c j
            = carried_cong F half_elem first j (λ i k. refl) (λ i k. refl) (λ i k. same i (omega arith)) in
            inr (j, h, subst (λ T. T) (λ i. Slip (sent F half_elem (e i) (p j) (q j)) (honest_quadratic a matrices j) (same j h i)) s)

  few : (j : ℕ) → ((x : Elem) × (sent_quadratic a j x ≢ honest_quadratic a matrices j x)) → (vs : List Elem) → Distinct vs
      → All (λ v. sent_quadratic a j v ≡ honest_quadratic a matrices j v) vs → length vs ≤ 2
  unfolding sent_at
  few j (x, differ) =
      agree_at_most F element_domain 2 (sent_quadratic a j) (honest_quadratic a matrices j)
      (sent_degree F half_elem half_two (carried_f (value_of a.coefficients (u a)) p q c j) (p j) (q j))
      (honest_degree F half_elem (root a.skip) (Sides.run a) (from_words matrices) (u a) half_two (take j (us a))) (λ e. differ (e x))

  -- both read no more than what was sent and drawn before the round's challenge
  settles : (j : ℕ) → j < a.stack → (b : Asked) → SameBefore j a b → (x : Elem)
      → (sent_quadratic a j x ≡ sent_quadratic b j x) × (honest_quadratic a matrices j x ≡ honest_quadratic b matrices j x)
  unfolding sent_at
  settles j s b e x = (
    (λ i. sent F half_elem (claims i) (e.pairs (2 * j) (omega arith) i) (e.pairs (2 * j + 1) (omega arith) i) x),
    (λ i. honest_f (runs i) (from_words matrices) (e.challenges 0 (omega arith) i) (drawn i) x),
  )
    where
      first : value_of a.coefficients (u a) ≡ value_of b.coefficients (u b)
      first = ap₂ value_of e.first.coefficients (e.challenges 0 (omega arith))

      claims : carried_f (value_of a.coefficients (u a)) p q c j
          ≡ carried_f (value_of b.coefficients (u b)) (λ i. elem_at b.pairs (2 * i)) (λ i. elem_at b.pairs (2 * i + 1)) (λ i. elem_at b.challenges (1 + i)) j
      claims =
          ap (λ v. carried_f v p q c j) first
          ∙ carried_cong F half_elem (value_of b.coefficients (u b)) j (λ i k. e.pairs (2 * i) (omega arith)) (λ i k. e.pairs (2 * i + 1) (omega arith))
          (λ i k. e.challenges (1 + i) (omega arith))

      runs : Sides.run a ≡ Sides.run b
      runs = same_runs a matrices b e.first

      drawn : take j (us a) ≡ take j (us b)
      drawn =
          take-listed j a.stack (λ i. elem_at a.challenges (1 + i)) (omega arith) ∙ listed_cong j (λ i k. e.challenges (1 + i) (omega arith))
          ∙ sym (take-listed j b.stack (λ i. elem_at b.challenges (1 + i)) (omega (arith, e.first.stack)))

  -- a weighted sum of claims that is false makes the first polynomials differ; then a value at u_0 that is right is a slip of round zero
  false_slips : TruthTold a matrices → (verdict a).answer ≡ Ok tt
      → weighted_claims_f (Sides.run a) (elem_at a.claims) ≢ weighted_claims_f (Sides.run a) (true_claim_f (Sides.run a) (from_words matrices))
      → Slip (sent_first a) (honest_first a matrices) (u a)
      ⊎ ((j : ℕ) × (j < a.stack) × Slip (sent_quadratic a j) (honest_quadratic a matrices j) (c j))
  false_slips told done wrong = ⊎_elim (λ e. inl (record { differ = first_differ a matrices done wrong; agree = e })) inr (slips told done)

  pub sent_pairs : SentPairs a matrices
  sent_pairs =
      record {
        false_claims = false_slips;
        at_most_first = first_few a matrices;
        settled_first = first_settles a matrices;
        right_or_slip = slips;
        at_most_two = few;
        settled = settles;
      }
