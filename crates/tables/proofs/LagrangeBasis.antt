-- The Lagrange basis of the skip subgroup: its values at the powers, its product form at index 0, and what turning by w does.
use mathlib.Core.Path.{◌≡◌, refl, sym, ◌∙◌, ap}
use mathlib.Core.Logic.{◌≢◌, ◌⊎◌, inl, inr}
use mathlib.Core.List.{[], ◌∷◌}
use Prim.Native.Nat.{ℕ, zero, suc, ◌*◌, ◌-◌, ◌^◌, ◌<◌, ◌≤◌}
use native.Mathlib.Nat
use native.Mathlib.Omega.{arith}
use Rattle.algebra.specs.Ring.{Ring, pow}
use Rattle.algebra.specs.Sum.{product}
use Rattle.algebra.proofs.RingLaws as Laws
use Rattle.algebra.proofs.Expression.{:1, ◌:*◌, ◌:=◌, ◌given◌⋆◌≈◌}
use Rattle.algebra.proofs.Solver.{solve}
use Rattle.algebra.proofs.Sums.{sum_cong}
use Rattle.algebra.proofs.Powers.{two_pow-pos, suc_pred, pow-add, pow-mul, pow-pow, pow-inverse, pow_back, inverse_unique}
use Rattle.tables.specs.Index.{before}
use Rattle.tables.specs.Root.{IsRoot, Skip}
use Rattle.tables.specs.Lagrange.{lagrange}
use Rattle.tables.proofs.Roots.{root_power, root-inverse, inverse, mul-inverse}
use Rattle.tables.proofs.GeometricSums.{geo, geo-product, mean, mean-zero, mean_one}
use Rattle.tables.proofs.Orthogonality.{geo-root}

module _ {A : Type 0} {R : Ring A} {half : A} {l : ℕ} {w : A} (skip : Skip R half l w) where
  infixl 60 ◌⊕◌
  infixl 70 ◌⊗◌
  open R use {zero as 𝟘, one as 𝟙, add as ◌⊕◌, mul as ◌⊗◌, mul_assoc, mul_comm, mul_one}

  abbrev L : ℕ → A → A
  L = lagrange R half l w

  -- 1/w, a generator too
  abbrev v : A
  v = inverse R l w

  w-v : w ⊗ v ≡ 𝟙
  w-v = mul-inverse R l w skip.root

  v-root : IsRoot R l v
  v-root = root-inverse R l w v w-v skip.root

  -- as a mean: lagrange i is lagrange 0, turned i times
  pub lagrange-mean : (i : ℕ) (z : A) → i ≤ 2 ^ l → L i z ≡ mean R half l (z ⊗ pow R v i)
  unfolding lagrange mean geo
  lagrange-mean i z h = ap (λ s. pow R half l ⊗ s) (sum_cong R (2 ^ l) term)
    where
      term : (k : ℕ) → pow R z k ⊗ pow R w ((2 ^ l - i) * k) ≡ pow R (z ⊗ pow R v i) k
      term k =
          ap (λ x. pow R z k ⊗ x) (sym (pow-pow R w (2 ^ l - i) k) ∙ ap (λ x. pow R x k) (pow_back R w v (2 ^ l) i w-v (root_power R l w skip.root) h))
          ∙ sym (pow-mul R z (pow R v i) k)

  pub lagrange_first : (z : A) → L 0 z ≡ mean R half l z
  unfolding pow
  lagrange_first z = lagrange-mean 0 z (omega arith) ∙ ap (mean R half l) (mul_one z)

  pub lagrange-product : (z : A) → L 0 z ≡ pow R half l ⊗ product R l (λ i. 𝟙 ⊕ pow R z (2 ^ i))
  unfolding mean
  lagrange-product z = lagrange_first z ∙ ap (λ g. pow R half l ⊗ g) (geo-product R l z)

  -- turning by w
  pub lagrange_turn : (i : ℕ) (y : A) → i < 2 ^ l → L i (w ⊗ y) ≡ L (before (2 ^ l) i) y
  unfolding before pow
  lagrange_turn zero y h =
      lagrange_first (w ⊗ y) ∙ ap (mean R half l) (ap (λ x. x ⊗ y) (sym back) ∙ mul_comm _ y) ∙ sym (lagrange-mean (2 ^ l - 1) y (omega arith))
    where
      back : pow R v (2 ^ l - 1) ≡ w
      back =
          inverse_unique R (pow R v (2 ^ l - 1)) w v
          (mul_comm _ v ∙ ap (pow R v) (suc_pred (two_pow-pos l)) ∙ root_power R l v v-root) (mul_comm v w ∙ w-v)
  lagrange_turn (suc i) y h =
      lagrange-mean (suc i) (w ⊗ y) (omega arith)
      ∙ ap (mean R half l) (solve R (w ∷ y ∷ v ∷ pow R v i ∷ []) (λ w y v p. w :* y :* (v :* p) := y :* p given y :* p ⋆ w :* v ≈ :1) refl w-v)
      ∙ sym (lagrange-mean i y (omega arith))

  pub lagrange_same : (i : ℕ) → i ≤ 2 ^ l → L i (pow R w i) ≡ 𝟙
  lagrange_same i h = lagrange-mean i (pow R w i) h ∙ ap (mean R half l) (pow-inverse R w v i w-v) ∙ mean_one R half skip.half_two l

  -- w^j · v^i is a power of w or of v
  pub geo_other : (i j : ℕ) → i < 2 ^ l → j < 2 ^ l → i ≢ j → geo R l (pow R w j ⊗ pow R v i) ≡ 𝟘
  geo_other i j hi hj ne = side (Nat.eq-zero-or-pos (j - i))
    where
      side : (j - i ≡ 0) ⊎ (0 < j - i) → geo R l (pow R w j ⊗ pow R v i) ≡ 𝟘
      side (inl s) =
          ap (geo R l)
          (ap (λ n. pow R w j ⊗ pow R v n) (sym (Nat.add-sub_of_le (Nat.le_of_sub-eq-zero s))) ∙ ap (λ x. pow R w j ⊗ x) (pow-add R v j (i - j))
          ∙ sym (mul_assoc _ _ _) ∙ ap (λ x. x ⊗ pow R v (i - j)) (pow-inverse R w v j w-v) ∙ Laws.one_mul R _)
          ∙ geo-root R l v v-root (i - j) (omega arith) (omega arith)
      side (inr s) =
          ap (geo R l)
          (ap (λ n. pow R w n ⊗ pow R v i) (sym (Nat.sub-add_cancel (omega arith))) ∙ ap (λ x. x ⊗ pow R v i) (pow-add R w (j - i) i)
          ∙ mul_assoc _ _ _ ∙ ap (λ x. pow R w (j - i) ⊗ x) (pow-inverse R w v i w-v) ∙ mul_one _)
          ∙ geo-root R l w skip.root (j - i) (omega arith) (omega arith)

  pub lagrange_other : (i j : ℕ) → i < 2 ^ l → j < 2 ^ l → i ≢ j → L i (pow R w j) ≡ 𝟘
  lagrange_other i j hi hj ne = lagrange-mean i (pow R w j) (omega arith) ∙ mean-zero R half l (pow R w j ⊗ pow R v i) (geo_other i j hi hj ne)
