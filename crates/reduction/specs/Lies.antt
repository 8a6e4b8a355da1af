-- What is true and what is false of an instance: its claims, their weighted sum, and a claim that is carried on.
use Rattle.std.specs.Prelude.{◌≡◌, ◌≢◌, true, List, ℕ, ◌+◌, ◌-◌, ◌*◌, ◌^◌, ◌<◌, length}
use Rattle.field.specs.Element.{Elem, F}
use Rattle.field.specs.Slice.{elem_at, canonical_words}
use Rattle.layout.specs.Lists.{first_count, lists_number, lists_length}
use Rattle.layout.specs.Triples.{column_count}
use Rattle.layout.specs.Placing.{stack_width}
use Rattle.weights.specs.Run.{Run}
use Rattle.weights.specs.LambdaPowers.{claims_before}
use Rattle.weights.specs.AtField.{weighted_claims_f, true_claim_f, folded_sum_f}
use Rattle.reduction.specs.Senders.{Instance, Sender, run_at, cells, carried_at}

module _ (t : Instance) where
  -- the run's columns; no lambda enters their values, and it is put at zero
  abbrev pub columns_of : Run Elem
  columns_of = run_at t F.zero

  -- how many claims there are
  abbrev pub claim_count : ℕ
  claim_count = claims_before columns_of (column_count t.lists)

  -- some claim is not the true one: the value at r of its trace column, or of that column with its rows turned by one
  abbrev pub FalseClaim : Type 0
  FalseClaim = (i : ℕ) × (i < claim_count) × (elem_at t.claims i ≢ true_claim_f columns_of (cells t) i)

  -- every claim is
  abbrev pub AllTrue : Type 0
  AllTrue = (i : ℕ) → i < claim_count → elem_at t.claims i ≡ true_claim_f columns_of (cells t) i

  -- the weighted sum of the claims is not that of the true ones
  abbrev pub FalseSum : Elem → Type 0
  FalseSum lambda = weighted_claims_f (run_at t lambda) (elem_at t.claims) ≢ weighted_claims_f (run_at t lambda) (true_claim_f (run_at t lambda) (cells t))

  -- the claim carried on through u_0 and the rounds at us is not the weighted sum folded there
  abbrev pub FalseCarried : Sender → Elem → Elem → List Elem → Type 0
  FalseCarried s lambda u us = carried_at t s lambda u us ≢ folded_sum_f (run_at t lambda) (cells t) u us

-- nothing of it is refused, whatever is drawn and sent: lists, and slices of the right lengths in words below p
pub record WellFormed (t : Instance) : Type 0 where
  pub lists : lists_number t.skip t.stack t.counts t.lists ≡ 0
  pub sizes : lists_length t.counts t.lists ≡ 0
  pub point : length t.r ≡ 4 * (t.stack + 1)
  pub point_words : canonical_words t.r ≡ true
  pub claims_asked_lem : length t.claims ≡ 4 * claim_count t
  pub claims_words_lem : canonical_words t.claims ≡ true
  pub observed_asked : length t.observed
      ≡ 4 * (2 ^ (t.skip + 1) - 1) + 8 * t.stack + 4 * stack_width t.skip t.stack (first_count t.counts) t.lists
