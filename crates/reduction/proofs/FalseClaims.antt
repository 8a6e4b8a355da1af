-- How many of all challenges get a yes with a false claim, over lists that are not refused.
use mathlib.Core.Path.{◌≡◌, refl, sym, ◌∙◌, ap}
use mathlib.Core.Logic.{◌⊎◌, inl, inr}
use mathlib.Core.List.{[]}
use Prim.Native.Nat.{ℕ, suc, ◌+◌, ◌-◌, ◌*◌, ◌^◌, ◌<◌, ◌≤◌}
use native.Mathlib.Nat
use native.Mathlib.Numerals.{add-one}
use native.Mathlib.Omega.{arith}
use lib.ListN.{get_or}
use lib.Pow.{pow_mono}
use Rattle.algebra.specs.Listed.{listed}
use Rattle.algebra.specs.Polynomial.{value, Degree}
use Rattle.algebra.proofs.Lists.{length-listed}
use Rattle.algebra.proofs.Powers.{two_pow-pos}
use Rattle.algebra.proofs.Counts.{count_mono}
use Rattle.field.specs.Element.{Elem, F, half_elem, elem_of, words_of}
use Rattle.field.specs.Enumeration.{field_size, how_many_f}
use Rattle.field.specs.Powers.{root}
use Rattle.field.specs.Slice.{elem_at}
use Rattle.field.proofs.ElementField.{element_domain}
use Rattle.field.proofs.Elements.{elem_of_words_of}
use Rattle.field.proofs.Embedding.{half_two}
use Rattle.field.proofs.Enumerated.{each_once}
use Rattle.layout.specs.Triples.{column_count}
use Rattle.layout.proofs.RunLaws.{Listed, shaped-columns}
use Rattle.weights.specs.LambdaPowers.{claims_before}
use Rattle.weights.specs.AtField.{weighted_claims_f, true_claim_f}
use Rattle.weights.proofs.PlannedRuns.{planned-run}
use Rattle.reduction.specs.Senders.{Instance, Sender, run_at, cells, says_yes, first_at}
use Rattle.reduction.specs.Lies.{columns_of, FalseClaim}
use Rattle.reduction.proofs.Limits.{columns_all, one_in_share}
use Rattle.reduction.proofs.FoldedDegrees.{first_degree, true-values}
use Rattle.reduction.proofs.LambdaPolynomials.{in_lambda, claims-value, lambda_degree, lambda_settled}
use Rattle.reduction.proofs.TrueSums.{true-sum, trues_any, Of, claim_of}
use Rattle.reduction.proofs.GameCounts.{whole_count}
use Rattle.reduction.proofs.FieldGame.{tells, sent_pair, sent_quadratics}
use Rattle.reduction.proofs.Played.{over_powers, claims_at, true_at, game}
use Rattle.reduction.proofs.PlayedOn.{played}

-- the degree of the first polynomial that is sent
pub first_sent_lem : (t : Instance) (s : Sender) (l : Elem) → Degree F ((2 ^ t.skip - 1) + (2 ^ t.skip - 1)) (first_at t s l)
first_sent_lem t s l = (
  listed (2 ^ (t.skip + 1) - 1) (s.first l),
  length-listed (2 ^ (t.skip + 1) - 1) (s.first l) ∙ coefficients,
  λ x. refl,
)
  where
    coefficients : 2 ^ (t.skip + 1) - 1 ≡ suc ((2 ^ t.skip - 1) + (2 ^ t.skip - 1))
    coefficients = omega (arith, two_pow-pos t.skip, ap (λ k. 2 ^ k) (add-one t.skip) ∙ Nat.pow-succ' 2 t.skip)

module _ (t : Instance) (lists : Listed t.skip t.stack t.counts t.lists) where
  abbrev K : ℕ
  K = column_count t.lists

  -- the true claims, and their weighted sum
  abbrev true_of : ℕ → Elem
  true_of = true_claim_f (columns_of t) (cells t)

  abbrev pub truth_at : Elem → Elem
  truth_at l = weighted_claims_f (run_at t l) (true_claim_f (run_at t l) (cells t))

  -- the sum over the subgroup is the weighted sum of the true claims
  pub sum-true : (l : Elem) → over_powers t (λ u. true_at t l u []) ≡ truth_at l
  sum-true l = true-sum (run_at t l) (cells t) (planned-run t.skip t.stack t.counts t.lists t.r (words_of l) lists)

  truth_is : (l : Elem) → truth_at l ≡ weighted_claims_f (run_at t l) true_of
  truth_is l = ap (λ xs. weighted_claims_f (run_at t l) (λ i. get_or xs i F.zero)) (trues_any F half_elem (root t.skip) (columns_of t) (cells t) (elem_of (words_of l)))

  -- weighted sums as polynomials in lambda
  abbrev first : (ℕ → Elem) → ℕ → Elem
  first f k = f (claims_before (columns_of t) k)

  abbrev second : (ℕ → Elem) → ℕ → Elem
  second f k = f (claims_before (columns_of t) k + 1)

  in_lambda_lem : (f : ℕ → Elem) (l : Elem) → weighted_claims_f (run_at t l) f ≡ value F (in_lambda F (columns_of t) (first f) (second f)) l
  in_lambda_lem f l =
      claims-value F (columns_of t) f (elem_of (words_of l)) ∙ ap (λ x. value F (in_lambda F (columns_of t) (first f) (second f)) x) (elem_of_words_of l)

  truth_in : (l : Elem) → truth_at l ≡ value F (in_lambda F (columns_of t) (first true_of) (second true_of)) l
  truth_in l = truth_is l ∙ in_lambda_lem true_of l

  -- a false claim makes them different
  differ : FalseClaim t → ¬ ((l : Elem) → claims_at t l ≡ truth_at l)
  differ (i, h, false-one) e = false-one (by of.place)
    where
      of : Of (columns_of t) K i
      of = claim_of (columns_of t) K i h

      settled : (first (elem_at t.claims) of.column ≡ first true_of of.column)
          × (0 < (columns_of t).flag of.column → second (elem_at t.claims) of.column ≡ second true_of of.column)
      settled =
          lambda_settled F each_once element_domain (columns_of t) (first (elem_at t.claims)) (second (elem_at t.claims)) (first true_of) (second true_of)
          (omega (arith, shaped-columns t.skip t.stack t.lists lists.laid.shaped)) (λ l. sym (in_lambda_lem (elem_at t.claims) l) ∙ e l ∙ truth_in l) of.column of.there

      by : (i ≡ claims_before (columns_of t) of.column) ⊎ ((0 < (columns_of t).flag of.column) × (i ≡ claims_before (columns_of t) of.column + 1))
          → elem_at t.claims i ≡ true_of i
      by (inl q) = ap (elem_at t.claims) q ∙ settled.0 ∙ ap true_of (sym q)
      by (inr (f, q)) = ap (elem_at t.claims) q ∙ settled.1 f ∙ ap true_of (sym q)

  module _ (s : Sender) where
    pub cost : FalseClaim t
        → how_many_f (suc (suc t.stack)) (says_yes t s) ≤ ((2 * K - 1) + ((2 ^ t.skip - 1) + (2 ^ t.skip - 1)) + 2 * t.stack) * field_size ^ suc t.stack
    cost false-claim =
        let of = claim_of (columns_of t) K false-claim.0 false-claim.1 in
        let some : 0 < K = omega (arith, of.there) in
        Nat.le_trans (count_mono each_once (suc (suc t.stack)) (says_yes t s) (game t s) (played t s))
        (whole_count F element_domain tells sent_pair sent_quadratics each_once (2 * K - 1) ((2 ^ t.skip - 1) + (2 ^ t.skip - 1)) t.stack (over_powers t) (claims_at t)
        truth_at (first_at t s) s.pair (true_at t)
        (lambda_degree F (columns_of t) (first (elem_at t.claims)) (second (elem_at t.claims)) (claims_at t) some (in_lambda_lem (elem_at t.claims)))
        (lambda_degree F (columns_of t) (first true_of) (second true_of) truth_at some truth_in) sum-true (first_sent_lem t s)
        (λ l. first_degree F half_elem (root t.skip) (run_at t l) (cells t)) (λ l u. true-values F half_elem (root t.skip) (run_at t l) (cells t) half_two u)
        (differ false-claim))

    -- fewer than one in 2^106
    pub rare : FalseClaim t → how_many_f (suc (suc t.stack)) (says_yes t s) * 2 ^ 106 < field_size ^ suc (suc t.stack)
    rare false-claim =
        let shaped = lists.laid.shaped in
        let skip : 2 ^ t.skip ≤ 2 ^ 10 = pow_mono shaped.skip in
        one_in_share (how_many_f (suc (suc t.stack)) (says_yes t s)) (2 * K - 1) ((2 ^ t.skip - 1) + (2 ^ t.skip - 1)) t.stack
        (omega (arith, columns_all t.skip t.stack t.counts t.lists lists)) (omega arith) shaped.stack (cost false-claim)
