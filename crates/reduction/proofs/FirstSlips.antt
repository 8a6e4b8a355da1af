-- Round zero: where the weighted sum of the claims is false, a yes needs a first polynomial other than the honest one; both have 2^(l_skip + 1) − 1
-- coefficients and are settled before u_0.
use mathlib.Core.Path.{◌≡◌, refl, sym, ◌∙◌, ap, ap₂}
use mathlib.Core.Logic.{◌≢◌}
use mathlib.Core.List.{List, []}
use Prim.Native.Nat.{ℕ, zero, suc, ◌+◌, ◌-◌, ◌/◌, ◌^◌, ◌≤◌}
use native.Mathlib.Omega.{arith}
use lib.ListN.{length}
use Rattle.algebra.specs.Ring.{Ring, pow}
use Rattle.algebra.specs.Sum.{sum}
use Rattle.algebra.specs.Polynomial.{All, Distinct}
use Rattle.algebra.proofs.Powers.{two_pow-pos}
use Rattle.algebra.proofs.Agreements.{agree_at_most}
use Rattle.field.specs.Element.{Elem, F, half_elem}
use Rattle.field.specs.Powers.{root}
use Rattle.field.specs.Slice.{elem_at}
use Rattle.std.specs.declared.result.Result.TheVariants.{Ok}
use Rattle.field.proofs.ElementField.{element_domain, element_discrete}
use Rattle.tables.specs.Points.{coordinates, count}
use Rattle.tables.specs.SubgroupSum.{subgroup_sum}
use Rattle.tables.specs.OnSlices.{value_of}
use Rattle.tables.proofs.PointLaws.{coordinates-length}
use Rattle.layout.specs.Lists.{first_count}
use Rattle.weights.specs.RunOf.{run_of}
use Rattle.weights.specs.AtField.{weighted_claims_f, folded_sum_f, first_polynomial_f, true_claim_f}
use Rattle.weights.proofs.PlannedRuns.{planned-run}
use Rattle.weights.proofs.FirstPolynomials.{first_length, first_value}
use Rattle.verifier.specs.Asked.{Asked}
use Rattle.verifier.specs.Sides as Sides
use Rattle.verifier.specs.Numbers.{asked_number}
use Rattle.verifier.specs.Verdicts.{verdict}
use Rattle.verifier.proofs.Yes.{yes_exactly}
use Rattle.verifier.proofs.ShapeLaws.{asked_ready}
use Rattle.prover.specs.RowSum.{from_words}
use Rattle.reduction.specs.Sent.{sent_first, honest_first, SameFirst}
use Rattle.reduction.proofs.TrueSums.{true-sum}

-- two sums that differ have a term in which they do
sum_differ : {A : Type 0} (R : Ring A) → ((a b : A) → Dec (a ≡ b)) → (n : ℕ) (f g : ℕ → A) → sum R n f ≢ sum R n g → (i : ℕ) × (f i ≢ g i)
unfolding sum
sum_differ R discrete zero f g h = absurd (h refl)
sum_differ R discrete (suc n) f g h = by (discrete (f n) (g n)) (λ e. sum_differ R discrete n f g (λ q. h (ap₂ R.add q e)))
  where
    by : Dec (f n ≡ g n) → (f n ≡ g n → (i : ℕ) × (f i ≢ g i)) → (i : ℕ) × (f i ≢ g i)
    by (yes e) before = before e
    by (no e) before = (n, e)

module _ (a : Asked) (matrices : List ℕ) where
  abbrev cells : ℕ → Elem
  cells = from_words matrices

  abbrev w : Elem
  w = root a.skip

  pub first_differ : (verdict a).answer ≡ Ok tt
      → weighted_claims_f (Sides.run a) (elem_at a.claims) ≢ weighted_claims_f (Sides.run a) (true_claim_f (Sides.run a) cells)
      → (x : Elem) × (sent_first a x ≢ honest_first a matrices x)
  unfolding Sides.weighted Sides.first_sum subgroup_sum value_of
  first_differ done wrong =
      let y = (yes_exactly a).0 done in
      let planned = planned-run a.skip a.stack a.counts a.lists a.r a.lambda (asked_ready a y.0).listed in
      let d = sum_differ F element_discrete (2 ^ a.skip) (λ i. sent_first a (pow F w i)) (λ i. honest_first a matrices (pow F w i)) (λ e. wrong (y.1 ∙ e ∙ true-sum (Sides.run a) cells planned)) in
      (pow F w d.0, d.1)

  pub first_few : asked_number a ≡ 0 → ((x : Elem) × (sent_first a x ≢ honest_first a matrices x)) → (vs : List Elem) → Distinct vs
      → All (λ v. sent_first a v ≡ honest_first a matrices v) vs → length vs ≤ 2 ^ (a.skip + 1) - 2
  unfolding value_of
  first_few number (x, differ) =
      agree_at_most F element_domain (2 ^ (a.skip + 1) - 2) (sent_first a) (honest_first a matrices)
      (coordinates a.coefficients 0 (count a.coefficients), coordinates-length a.coefficients 0 (count a.coefficients) ∙ sent-length, λ z. refl)
      (first_polynomial_f (Sides.run a) cells, first_length F half_elem w (Sides.run a) cells ∙ one_more, λ z. sym (first_value F half_elem w (Sides.run a) cells z))
      (λ e. differ (e x))
    where
      one_more : 2 ^ (a.skip + 1) - 1 ≡ suc (2 ^ (a.skip + 1) - 2)
      one_more = omega (arith, two_pow-pos a.skip, ap (λ k. 2 ^ k) {x = a.skip + 1} {y = suc a.skip} (omega arith))

      sent-length : length a.coefficients / 4 ≡ suc (2 ^ (a.skip + 1) - 2)
      sent-length = (let e : length a.coefficients / 4 ≡ 2 ^ (a.skip + 1) - 1 = omega (arith, (asked_ready a number).sized.coefficients_all) in e) ∙ one_more

  -- the run of two proofs of one shape, r and lambda
  pub same_runs : (b : Asked) → SameFirst a b → Sides.run a ≡ Sides.run b
  same_runs b e = λ i. run_of (e.skip i) (e.stack i) (first_count (e.counts i)) (e.lists i) (e.r i) (e.lambda i)

  pub first_settles : (b : Asked) → SameFirst a b → (x : Elem) → (sent_first a x ≡ sent_first b x) × (honest_first a matrices x ≡ honest_first b matrices x)
  first_settles b e x = (ap (λ cs. value_of cs x) e.coefficients, ap (λ run. folded_sum_f run cells x []) (same_runs b e))
