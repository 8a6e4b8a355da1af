-- The sum of a polynomial over the skip subgroup, by its coefficients: 2^l times the sum of every 2^l-th.
use mathlib.Core.Path.{◌≡◌, ◌∙◌, ap, ap₂}
use mathlib.Core.List.{List}
use Prim.Native.Nat.{ℕ, ◌+◌, ◌*◌, ◌^◌, ◌≤◌}
use native.Mathlib.Nat
use native.Mathlib.Omega.{arith}
use lib.ListN.{length, get_or}
use Rattle.algebra.specs.Ring.{Ring, num, pow}
use Rattle.algebra.specs.Sum.{sum}
use Rattle.algebra.proofs.RingLaws as Laws
use Rattle.algebra.proofs.Sums.{sum_cong, sum-mul, sum_swap, sum_grid, sum_delta}
use Rattle.algebra.proofs.Powers.{two_pow-pos, pow_swap}
use Rattle.tables.specs.Root.{Skip}
use Rattle.tables.specs.SubgroupSum.{subgroup_sum}
use Rattle.tables.proofs.Roots.{root_period}
use Rattle.tables.proofs.GeometricSums.{geo, geo_one}
use Rattle.tables.proofs.Orthogonality.{geo-root}
use Rattle.tables.proofs.PolynomialValues.{value-sum}

module _ {A : Type 0} {R : Ring A} {half : A} {l : ℕ} {w : A} (skip : Skip R half l w) where
  infixl 60 ◌⊕◌
  infixl 70 ◌⊗◌
  open R use {zero as 𝟘, add as ◌⊕◌, mul as ◌⊗◌, mul_comm}

  -- of the coefficients of a block, the first counts
  block : (c : ℕ → A) (j : ℕ) → sum R (2 ^ l) (λ i. c (i + 2 ^ l * j) ⊗ geo R l (pow R w (i + 2 ^ l * j))) ≡ num R (2 ^ l) ⊗ c (2 ^ l * j)
  unfolding pow
  block c j =
      sum_cong R (2 ^ l) (λ i. ap (λ x. c (i + 2 ^ l * j) ⊗ geo R l x) (root_period R l w skip.root i j))
      ∙ sum_delta R (2 ^ l) (λ i. c (i + 2 ^ l * j) ⊗ geo R l (pow R w i)) 0 (two_pow-pos l)
      (λ i s ne. ap (λ g. c (i + 2 ^ l * j) ⊗ g) (geo-root R l w skip.root i (omega arith) s) ∙ Laws.mul-zero R _)
      ∙ ap₂ ◌⊗◌ (ap c (Nat.zero-add (2 ^ l * j))) (geo_one R l) ∙ mul_comm _ _

  -- for coefficients by index
  sum-over_powers : (m : ℕ) (c : ℕ → A)
      → sum R (2 ^ l) (λ i. sum R (2 ^ l * m) (λ k. c k ⊗ pow R (pow R w i) k)) ≡ num R (2 ^ l) ⊗ sum R m (λ j. c (2 ^ l * j))
  unfolding geo
  sum-over_powers m c =
      sum_swap R (2 ^ l) (2 ^ l * m) (λ i k. c k ⊗ pow R (pow R w i) k)
      ∙ sum_cong R (2 ^ l * m) (λ k. sum_cong R (2 ^ l) (λ i. ap (λ x. c k ⊗ x) (pow_swap R w i k)) ∙ sum-mul R (2 ^ l) (c k) (pow R (pow R w k)))
      ∙ sum_grid R (2 ^ l) m (λ k. c k ⊗ geo R l (pow R w k))
      ∙ sum_cong R m (block c) ∙ sum-mul R m (num R (2 ^ l)) (λ j. c (2 ^ l * j))

  -- past the end the coefficients are zero
  pub subgroup_sum-coefficients : (cs : List A) (m : ℕ) → length cs ≤ 2 ^ l * m → subgroup_sum R l w cs ≡ num R (2 ^ l) ⊗ sum R m (λ j. get_or cs (2 ^ l * j) 𝟘)
  unfolding subgroup_sum
  subgroup_sum-coefficients cs m h =
      sum_cong R (2 ^ l) (λ i. value-sum R cs (2 ^ l * m) (pow R w i) h) ∙ sum-over_powers m (λ k. get_or cs k 𝟘)

  -- at most 2 · 2^l coefficients, as of the first round's polynomial
  pub subgroup_sum_two : (cs : List A) → length cs ≤ 2 ^ l * 2 → subgroup_sum R l w cs ≡ num R (2 ^ l) ⊗ (get_or cs 0 𝟘 ⊕ get_or cs (2 ^ l) 𝟘)
  unfolding sum
  subgroup_sum_two cs h =
      subgroup_sum-coefficients cs 2 h
      ∙ ap (λ s. num R (2 ^ l) ⊗ s) (ap₂ ◌⊕◌ (Laws.zero-add R _ ∙ ap (λ k. get_or cs k 𝟘) (Nat.mul-zero (2 ^ l))) (ap (λ k. get_or cs k 𝟘) (Nat.mul-one (2 ^ l))))
