-- The sum of the powers of x below 2^l: its product form, and its mean, which is the Lagrange polynomial of 1.
use mathlib.Core.Path.{◌≡◌, refl, sym, ◌∙◌, ap, ap₂}
use mathlib.Core.List.{[], ◌∷◌}
use Prim.Native.Nat.{ℕ, zero, suc, ◌+◌, ◌^◌}
use native.Mathlib.Nat
use native.Mathlib.Nat.{two-pow-succ}
use Rattle.algebra.specs.Ring.{Ring, num, pow}
use Rattle.algebra.specs.Sum.{sum, product}
use Rattle.algebra.proofs.RingLaws as Laws
use Rattle.algebra.proofs.Expression.{:1, ◌:+◌, ◌:*◌, ◌:=◌}
use Rattle.algebra.proofs.Solver.{solve}
use Rattle.algebra.proofs.Sums.{sum_cong, sum-mul, sum_split, sum_const}
use Rattle.algebra.proofs.Powers.{two_pow-add, pow-add, pow-pow, pow_of_one, half_pow}

module _ {A : Type 0} (R : Ring A) where
  infixl 60 ◌⊕◌
  infixl 70 ◌⊗◌
  open R use {zero as 𝟘, one as 𝟙, add as ◌⊕◌, mul as ◌⊗◌, mul_assoc, mul_one}

  -- 1 + x + .. + x^(2^l − 1)
  unfoldable pub geo : ℕ → A → A
  geo l x = sum R (2 ^ l) (pow R x)

  pub geo-zero : (x : A) → geo 0 x ≡ 𝟙
  unfolding geo sum pow
  geo-zero x = Laws.zero-add R 𝟙

  pub geo-suc : (l : ℕ) (x : A) → geo (suc l) x ≡ geo l x ⊗ (𝟙 ⊕ pow R x (2 ^ l))
  unfolding geo
  geo-suc l x =
      ap (λ n. sum R n (pow R x)) (two-pow-succ l) ∙ sum_split R (2 ^ l) (2 ^ l) (pow R x)
      ∙ ap (λ s. geo l x ⊕ s) (sum_cong R (2 ^ l) (λ i. pow-add R x (2 ^ l) i) ∙ sum-mul R (2 ^ l) (pow R x (2 ^ l)) (pow R x))
      ∙ solve R (geo l x ∷ pow R x (2 ^ l) ∷ []) (λ g p. g :+ p :* g := g :* (:1 :+ p)) refl

  pub geo-product : (l : ℕ) (x : A) → geo l x ≡ product R l (λ i. 𝟙 ⊕ pow R x (2 ^ i))
  unfolding product
  geo-product zero x = geo-zero x
  geo-product (suc l) x = geo-suc l x ∙ ap (λ g. g ⊗ (𝟙 ⊕ pow R x (2 ^ l))) (geo-product l x)

  pub geo-add : (h d : ℕ) (x : A) → geo (h + d) x ≡ geo h x ⊗ geo d (pow R x (2 ^ h))
  geo-add h zero x = ap (λ n. geo n x) (Nat.add-zero h) ∙ sym (mul_one _) ∙ ap (λ y. geo h x ⊗ y) (sym (geo-zero _))
  geo-add h (suc d) x =
      ap (λ n. geo n x) (Nat.add-suc h d) ∙ geo-suc (h + d) x
      ∙ ap₂ (λ a b. a ⊗ (𝟙 ⊕ b)) (geo-add h d x) (ap (pow R x) (two_pow-add h d) ∙ sym (pow-pow R x (2 ^ h) (2 ^ d)))
      ∙ mul_assoc _ _ _ ∙ ap (λ y. geo h x ⊗ y) (sym (geo-suc d (pow R x (2 ^ h))))

  pub geo_one : (l : ℕ) → geo l 𝟙 ≡ num R (2 ^ l)
  unfolding geo
  geo_one l = sum_cong R (2 ^ l) (λ i. pow_of_one R i) ∙ sum_const R (2 ^ l) 𝟙 ∙ mul_one _

  module _ (half : A) where
    -- the mean of the powers
    unfoldable pub mean : ℕ → A → A
    mean l x = pow R half l ⊗ geo l x

    pub mean-add : (h d : ℕ) (x : A) → mean (h + d) x ≡ mean h x ⊗ mean d (pow R x (2 ^ h))
    unfolding mean
    mean-add h d x =
        ap₂ ◌⊗◌ (pow-add R half h d) (geo-add h d x)
        ∙ solve R (pow R half h ∷ pow R half d ∷ geo h x ∷ geo d (pow R x (2 ^ h)) ∷ []) (λ p q g k. p :* q :* (g :* k) := p :* g :* (q :* k)) refl

    pub mean-zero : (l : ℕ) (x : A) → geo l x ≡ 𝟘 → mean l x ≡ 𝟘
    unfolding mean
    mean-zero l x e = ap (λ g. pow R half l ⊗ g) e ∙ Laws.mul-zero R _

    pub mean_one : half ⊗ num R 2 ≡ 𝟙 → (l : ℕ) → mean l 𝟙 ≡ 𝟙
    unfolding mean
    mean_one e l = ap (λ g. pow R half l ⊗ g) (geo_one l) ∙ half_pow R half e l
