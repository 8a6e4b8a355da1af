-- The kernel of the skip subgroup: at a power it is the Lagrange polynomial, and at 1 a product.
use mathlib.Core.Path.{◌≡◌, ◌∙◌, ap}
use Prim.Native.Nat.{ℕ, ◌^◌, ◌<◌}
use native.Mathlib.Omega.{arith}
use Rattle.algebra.specs.Ring.{Ring, pow}
use Rattle.algebra.specs.Sum.{product}
use Rattle.algebra.proofs.RingLaws as Laws
use Rattle.algebra.proofs.Sums.{sum_delta}
use Rattle.algebra.proofs.Powers.{two_pow-pos}
use Rattle.tables.specs.Root.{Skip}
use Rattle.tables.specs.Lagrange.{lagrange}
use Rattle.tables.specs.EqUni.{eq_uni}
use Rattle.tables.proofs.LagrangeBasis.{lagrange_same, lagrange_other, lagrange-product}

module _ {A : Type 0} {R : Ring A} {half : A} {l : ℕ} {w : A} (skip : Skip R half l w) where
  infixl 60 ◌⊕◌
  infixl 70 ◌⊗◌
  open R use {one as 𝟙, add as ◌⊕◌, mul as ◌⊗◌, mul_one}

  abbrev L : ℕ → A → A
  L = lagrange R half l w

  pub eq_uni_at_power : (z : A) (i : ℕ) → i < 2 ^ l → eq_uni R half l w z (pow R w i) ≡ L i z
  unfolding eq_uni
  eq_uni_at_power z i h =
      sum_delta R (2 ^ l) (λ j. L j z ⊗ L j (pow R w i)) i h (λ j s ne. ap (λ x. L j z ⊗ x) (lagrange_other skip j i s h ne) ∙ Laws.mul-zero R _)
      ∙ ap (λ x. L i z ⊗ x) (lagrange_same skip i (omega arith)) ∙ mul_one _

  pub eq_uni_at_one : (z : A) → eq_uni R half l w z 𝟙 ≡ L 0 z
  unfolding pow
  eq_uni_at_one z = eq_uni_at_power z 0 (two_pow-pos l)

  -- what `eval_eq_uni_at_one` computes
  pub eq_uni_at_one_product : (z : A) → eq_uni R half l w z 𝟙 ≡ pow R half l ⊗ product R l (λ i. 𝟙 ⊕ pow R z (2 ^ i))
  eq_uni_at_one_product z = eq_uni_at_one z ∙ lagrange-product skip z
