-- At the field: the honest first polynomial is the only one of its length with its values, and for the true claims it sums over the subgroup to what they weigh.
use mathlib.Core.Path.{◌≡◌, sym}
use mathlib.Core.Logic.{◌≢◌}
use mathlib.Core.List.{List, []}
use Prim.Native.Nat.{ℕ, zero, suc, ◌+◌, ◌-◌, ◌^◌, ◌<◌, ◌≤◌}
use native.Mathlib.Omega.{arith}
use lib.ListN.{length, get_or}
use Rattle.algebra.specs.Ring.{pow}
use Rattle.algebra.specs.Listed.{listed}
use Rattle.algebra.specs.Polynomial.{value, All, Distinct}
use Rattle.algebra.proofs.Lists.{length-listed}
use Rattle.field.specs.Element.{Elem, F, half_elem}
use Rattle.field.specs.Powers.{root}
use Rattle.field.proofs.Embedding.{root_distinct}
use Rattle.field.proofs.ElementField.{element_domain}
use Rattle.tables.proofs.FieldSkip.{field_skip}
use Rattle.weights.specs.Run.{Run}
use Rattle.weights.specs.Fits.{Planned}
use Rattle.weights.specs.AtField.{folded_sum_f, first_sum_f, weighted_claims_f}
use Rattle.weights.specs.FirstPolynomial.{first_polynomial}
use Rattle.weights.specs.TrueClaims.{true_claims}
use Rattle.weights.proofs.FirstPolynomials.{first_only_at, first_sum_lem}
use Rattle.weights.proofs.ClaimLists.{claims-plain, claims-rotated}

module _ {A : Type 0} where
  pub all_listed : (P : A → Type 0) (n : ℕ) (f : ℕ → A) → ((i : ℕ) → i < n → P (f i)) → All P (listed n f)
  unfolding listed
  all_listed P zero f h = tt
  all_listed P (suc n) f h = (h 0 (omega arith), all_listed P n (λ i. f (suc i)) (λ i l. h (suc i) (omega arith)))

  pub distinct_listed : (n : ℕ) (f : ℕ → A) → ((i j : ℕ) → i < j → j < n → f i ≢ f j) → Distinct (listed n f)
  unfolding listed
  distinct_listed zero f h = tt
  distinct_listed (suc n) f h = (
    all_listed (λ s. s ≢ f 0) n (λ i. f (suc i)) (λ i l e. h 0 (suc i) (omega arith) (omega arith) (sym e)),
    distinct_listed n (λ i. f (suc i)) (λ i j l m. h (suc i) (suc j) (omega arith) (omega arith)),
  )

module _ (run : Run Elem) (cells : ℕ → Elem) where
  abbrev first_f : List Elem
  first_f = first_polynomial F half_elem (root run.skip) run cells

  abbrev claims_f : List Elem
  claims_f = true_claims F half_elem (root run.skip) run cells

  pub first_only : run.skip ≤ 10 → (cs : List Elem) → length cs ≡ 2 ^ (run.skip + 1) - 1 → ((z : Elem) → value F cs z ≡ folded_sum_f run cells z []) → cs ≡ first_f
  first_only h cs l e =
      first_only_at F half_elem (root run.skip) run cells element_domain cs points l
      (let n : length points ≡ 2 ^ k = length-listed (2 ^ k) (pow F (root k)) in omega arith)
      (distinct_listed (2 ^ k) (pow F (root k)) (λ i j a b. root_distinct k (omega arith) i j a b)) (all_listed _ (2 ^ k) (pow F (root k)) (λ i _. e (pow F (root k) i)))
    where
      k : ℕ
      k = run.skip + 1

      points : List Elem
      points = listed (2 ^ k) (pow F (root k))

  pub first_sum-true : Planned run → first_sum_f run first_f ≡ weighted_claims_f run (λ i. get_or claims_f i F.zero)
  first_sum-true planned =
      first_sum_lem run (field_skip run.skip (let l : run.skip ≤ 10 = planned.limit in omega arith)) planned cells (λ i. get_or claims_f i F.zero)
      (claims-plain F half_elem (root run.skip) run cells) (claims-rotated F half_elem (root run.skip) run cells)
