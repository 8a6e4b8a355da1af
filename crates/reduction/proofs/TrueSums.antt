-- The true claims: what the honest first polynomial sums to over the subgroup; that no lambda enters them; and where each claim stands.
use mathlib.Core.Path.{◌≡◌, refl, sym, ◌∙◌, ap}
use mathlib.Core.Logic.{◌⊎◌, inl, inr}
use mathlib.Core.List.{[], ◌++◌}
use Prim.Native.Nat.{ℕ, zero, suc, ◌+◌, ◌^◌, ◌<◌, ◌≤◌}
use native.Mathlib.Decide.{dec_le, ℕ_discrete}
use native.Mathlib.Omega.{arith}
use lib.ListN.{get_or}
use Rattle.algebra.specs.Ring.{Ring, pow}
use Rattle.algebra.specs.Sum.{sum}
use Rattle.field.specs.Element.{Elem, F, half_elem}
use Rattle.field.specs.Powers.{root}
use Rattle.weights.specs.Run.{Run}
use Rattle.weights.specs.ColumnFactor.{lifted_point, raised, column_factor}
use Rattle.weights.specs.StackColumns.{stack_rows}
use Rattle.weights.specs.ColumnValue.{cell, column_value, column_rotated}
use Rattle.weights.specs.LambdaPowers.{claims_of, claims_before, weighted_claims}
use Rattle.weights.specs.Fits.{Planned}
use Rattle.weights.specs.TrueClaims.{claims_with, true_before, true_claims}
use Rattle.weights.specs.AtField.{weighted_claims_f, folded_sum_f, true_claim_f}
use Rattle.weights.proofs.FieldRuns.{run_skip}
use Rattle.weights.proofs.FirstRound.{truth_claimed, first_round}
use Rattle.weights.proofs.ClaimCounts.{claims-some, claims-both, claim-inside}
use Rattle.weights.proofs.ClaimLists.{claims-plain, claims-rotated}
use Rattle.reduction.proofs.LambdaPolynomials.{with_lambda}

-- the sum over the subgroup
pub true-sum : (run : Run Elem) (cells : ℕ → Elem) → Planned run
    → sum F (2 ^ run.skip) (λ i. folded_sum_f run cells (pow F (root run.skip) i) []) ≡ weighted_claims_f run (true_claim_f run cells)
true-sum run cells planned =
    first_round run (run_skip run planned) planned cells (true_claim_f run cells) (claims-plain F half_elem (root run.skip) run cells)
    (claims-rotated F half_elem (root run.skip) run cells)

module _ {A : Type 0} (R : Ring A) (half w : A) (run : Run A) (cells : ℕ → A) where
  -- no lambda enters a column's values
  before_any_lambda : (l : A) (n : ℕ) → true_before R half w (with_lambda run l) cells n ≡ true_before R half w run cells n
  unfolding true_before column_value column_rotated cell stack_rows column_factor lifted_point raised
  before_any_lambda l zero = refl
  before_any_lambda l (suc n) = ap (λ xs. xs ++ claims_with (run.flag n) (column_value R half w run cells n) (column_rotated R half w run cells n)) (before_any_lambda l n)

  pub trues_any : (l : A) → true_claims R half w (with_lambda run l) cells ≡ true_claims R half w run cells
  unfolding true_claims
  trues_any l = before_any_lambda l run.count

  -- claims that are the true ones weigh what these weigh
  abbrev trues : ℕ → A
  trues i = get_or (true_claims R half w run cells) i R.zero

  pub weigh_true : (f : ℕ → A) → ((i : ℕ) → i < claims_before run run.count → f i ≡ trues i) → weighted_claims R run f ≡ weighted_claims R run trues
  weigh_true f h =
      sym (truth_claimed R half w run cells f
      (λ k s.
      h (claims_before run k) (omega (arith, claim-inside run run.count k 0 s (claims-some (run.flag k)))) ∙ claims-plain R half w run cells k s)
      (λ k s flag.
      h (claims_before run k + 1) (claim-inside run run.count k 1 s (claims-both (run.flag k) flag)) ∙ claims-rotated R half w run cells k s flag))
      ∙ truth_claimed R half w run cells trues (claims-plain R half w run cells) (claims-rotated R half w run cells)

-- claim i is of some column: its first, or its second where it is flagged
pub record Of {A : Type 0} (run : Run A) (n i : ℕ) : Type 0 where
  pub column : ℕ
  pub there : column < n
  pub place : (i ≡ claims_before run column) ⊎ ((0 < run.flag column) × (i ≡ claims_before run column + 1))

of_flag : (f i at : ℕ) → at ≤ i → i < at + claims_of f → (i ≡ at) ⊎ ((0 < f) × (i ≡ at + 1))
unfolding claims_of
of_flag zero i at a b = inl (omega arith)
of_flag (suc f) i at a b = by (ℕ_discrete i at)
  where
    by : Dec (i ≡ at) → (i ≡ at) ⊎ ((0 < suc f) × (i ≡ at + 1))
    by (yes e) = inl e
    by (no e) = inr (omega arith, omega arith)

pub claim_of : {A : Type 0} (run : Run A) (n i : ℕ) → i < claims_before run n → Of run n i
unfolding claims_before
claim_of run zero i h = absurd (omega arith)
claim_of run (suc n) i h = by (dec_le (claims_before run n) i) (λ k. claim_of run n i k)
  where
    by : Dec (claims_before run n ≤ i) → (i < claims_before run n → Of run n i) → Of run (suc n) i
    by (yes e) before = record { column = n; there = omega arith; place = of_flag (run.flag n) i (claims_before run n) e h }
    by (no e) before = let o = before (omega arith) in record { column = o.column; there = omega (arith, o.there); place = o.place }
