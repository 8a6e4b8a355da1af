-- Demand 3's part on a sent first polynomial and sent pairs. It needs no run: whatever is asked, and whatever stands in the stacked matrices.
use Rattle.std.specs.Prelude.{◌≡◌, ◌≢◌, ◌⊎◌, List, [], ℕ, ◌+◌, ◌-◌, ◌*◌, ◌^◌, ◌<◌, ◌≤◌, length, take}
use Rattle.algebra.specs.Polynomial.{All, Distinct}
use Rattle.field.specs.Element.{Elem, F, half_elem}
use Rattle.field.specs.Slice.{elem_at}
use Rattle.std.specs.declared.result.Result.TheVariants.{Ok}
use Rattle.tables.specs.Points.{coordinates}
use Rattle.tables.specs.OnSlices.{value_of}
use Rattle.layout.specs.Lists.{first_count}
use Rattle.layout.specs.Placing.{stack_width}
use Rattle.weights.specs.Carried.{sent_at, Slip}
use Rattle.weights.specs.AtField.{weighted_claims_f, true_claim_f, folded_sum_f, honest_f, true_opening_f}
use Rattle.verifier.specs.Asked.{Asked}
use Rattle.verifier.specs.Sides as Sides
use Rattle.verifier.specs.Numbers.{asked_number}
use Rattle.verifier.specs.Verdicts.{verdict}
use Rattle.prover.specs.RowSum.{from_words}

module _ (a : Asked) where
  -- u_0, and u_1 to u_n_stack
  abbrev pub u : Elem
  u = elem_at a.challenges 0

  abbrev pub us : List Elem
  us = coordinates a.challenges 1 a.stack

  -- the first polynomial that is sent
  abbrev pub sent_first : Elem → Elem
  sent_first = value_of a.coefficients

  -- round j's sent quadratic, rounds counted from 0
  abbrev pub sent_quadratic : ℕ → Elem → Elem
  sent_quadratic =
      sent_at F half_elem (value_of a.coefficients u) (λ j. elem_at a.pairs (2 * j)) (λ j. elem_at a.pairs (2 * j + 1))
      (λ j. elem_at a.challenges (1 + j))

  module _ (matrices : List ℕ) where
    -- and the honest ones
    abbrev pub honest_first : Elem → Elem
    honest_first z = folded_sum_f (Sides.run a) (from_words matrices) z []

    abbrev pub honest_quadratic : ℕ → Elem → Elem
    honest_quadratic j = honest_f (Sides.run a) (from_words matrices) u (take j us)

    -- the openings are the true column values
    abbrev pub TruthTold : Type 0
    TruthTold =
        (c : ℕ) → c < stack_width a.skip a.stack (first_count a.counts) a.lists
        → elem_at a.openings c ≡ true_opening_f (Sides.run a) (from_words matrices) u us c

-- Two proofs that agree on what the first polynomials stand on, before u_0 is drawn: the shape, r and lambda, and the one that is sent. Claims may differ.
pub record SameFirst (a b : Asked) : Type 0 where
  pub skip : a.skip ≡ b.skip
  pub stack : a.stack ≡ b.stack
  pub counts : a.counts ≡ b.counts
  pub lists : a.lists ≡ b.lists
  pub r : a.r ≡ b.r
  pub lambda : a.lambda ≡ b.lambda
  pub coefficients : a.coefficients ≡ b.coefficients

-- And on everything that is sent and drawn before round j's challenge: with these the pairs of the rounds up to j, u_0 and the challenges of the rounds
-- before it. Claims and openings may differ.
pub record SameBefore (j : ℕ) (a b : Asked) : Type 0 where
  pub first : SameFirst a b
  pub pairs : (i : ℕ) → i < 2 * j + 2 → elem_at a.pairs i ≡ elem_at b.pairs i
  pub challenges : (i : ℕ) → i < 1 + j → elem_at a.challenges i ≡ elem_at b.challenges i

pub record SentPairs (a : Asked) (matrices : List ℕ) : Type 0 where
  -- a yes with true openings on claims that do not weigh what the true ones weigh means that in some round, round zero included, the sent and the honest
  -- polynomial differ yet agree at the challenge
  pub false_claims : TruthTold a matrices → (verdict a).answer ≡ Ok tt
      → weighted_claims_f (Sides.run a) (elem_at a.claims) ≢ weighted_claims_f (Sides.run a) (true_claim_f (Sides.run a) (from_words matrices))
      → Slip (sent_first a) (honest_first a matrices) (u a)
      ⊎ ((j : ℕ) × (j < a.stack) × Slip (sent_quadratic a j) (honest_quadratic a matrices j) (elem_at a.challenges (1 + j)))
  -- where the first polynomials differ, they agree at 2^(l_skip + 1) − 2 of the field's p⁴ elements at most, at l_skip 0 at none
  pub at_most_first : asked_number a ≡ 0 → ((x : Elem) × (sent_first a x ≢ honest_first a matrices x)) → (vs : List Elem) → Distinct vs
      → All (λ v. sent_first a v ≡ honest_first a matrices v) vs → length vs ≤ 2 ^ (a.skip + 1) - 2
  -- and both are settled before u_0
  pub settled_first : (b : Asked) → SameFirst a b → (x : Elem) → (sent_first a x ≡ sent_first b x) × (honest_first a matrices x ≡ honest_first b matrices x)
  -- a yes with true openings means that the value at u_0 is right, or that in some round the sent and the honest quadratic differ yet agree at the
  -- challenge
  pub right_or_slip : TruthTold a matrices → (verdict a).answer ≡ Ok tt
      → (value_of a.coefficients (u a) ≡ folded_sum_f (Sides.run a) (from_words matrices) (u a) [])
      ⊎ ((j : ℕ) × (j < a.stack) × Slip (sent_quadratic a j) (honest_quadratic a matrices j) (elem_at a.challenges (1 + j)))
  -- where they differ, they agree at two of the field's p⁴ elements at most
  pub at_most_two : (j : ℕ) → ((x : Elem) × (sent_quadratic a j x ≢ honest_quadratic a matrices j x)) → (vs : List Elem) → Distinct vs
      → All (λ v. sent_quadratic a j v ≡ honest_quadratic a matrices j v) vs → length vs ≤ 2
  -- and both are settled before the round's challenge: two proofs that agree up to there, whatever comes later in them, have the same two quadratics
  pub settled : (j : ℕ) → j < a.stack → (b : Asked) → SameBefore j a b → (x : Elem)
      → (sent_quadratic a j x ≡ sent_quadratic b j x) × (honest_quadratic a matrices j x ≡ honest_quadratic b matrices j x)
