-- The closed form of the kernel of the skip subgroup, by orthogonality, and that the loop computes it.
use mathlib.Core.Path.{◌≡◌, refl, sym, ◌∙◌, ap, ap₂}
use mathlib.Core.Logic.{◌≢◌, ◌⊎◌, inl, inr}
use mathlib.Core.List.{[], ◌∷◌}
use Prim.Native.Nat.{ℕ, zero, suc, ◌+◌, ◌-◌, ◌^◌, ◌<◌}
use native.Mathlib.Nat
use native.Mathlib.Omega.{arith}
use Rattle.algebra.specs.Ring.{Ring, num, pow}
use Rattle.algebra.specs.Sum.{sum}
use Rattle.algebra.proofs.RingLaws as Laws
use Rattle.algebra.proofs.Expression.{:1, ◌:*◌, ◌:=◌, ◌given◌⋆◌≈◌}
use Rattle.algebra.proofs.Solver.{solve}
use Rattle.algebra.proofs.Sums.{sum_cong, sum_cong_below, sum-mul, sum_swap, sum-product, sum_first, sum_delta}
use Rattle.algebra.proofs.Powers.{two_pow-pos, suc_pred, pow-add, pow-mul, pow_swap, half_pow}
use Rattle.tables.specs.Root.{IsRoot, Skip}
use Rattle.tables.specs.EqUni.{eq_uni}
use Rattle.tables.proofs.Roots.{root_power, root-inverse, inverse, mul-inverse}
use Rattle.tables.proofs.GeometricSums.{geo, geo_one, mean}
use Rattle.tables.proofs.Orthogonality.{geo-root}
use Rattle.tables.proofs.LagrangeBasis.{lagrange-mean}
use Rattle.tables.proofs.EqUniLoop.{eq_loop, eq_loop-sum}

-- the index that with a makes 0 or n
opposite : ℕ → ℕ → ℕ
opposite n zero = 0
opposite n (suc a) = n - suc a

opposite_small : (n a : ℕ) → 0 < n → opposite n a < n
unfolding opposite
opposite_small n zero h = h
opposite_small n (suc a) h = omega arith

module _ {A : Type 0} (R : Ring A) (l : ℕ) (v : A) (root : IsRoot R l v) where
  infixl 60 ◌⊕◌
  infixl 70 ◌⊗◌
  open R use {zero as 𝟘, one as 𝟙, add as ◌⊕◌, mul as ◌⊗◌, mul_comm, mul_one}

  opposite_power : (a : ℕ) → a < 2 ^ l → pow R v (a + opposite (2 ^ l) a) ≡ 𝟙
  unfolding opposite pow
  opposite_power zero h = refl
  opposite_power (suc a) h = ap (pow R v) (Nat.add-sub_of_le {n = 2 ^ l} {m = suc a} (omega arith)) ∙ root_power R l v root

  -- below twice the order, other than 0 and the order
  geo-below_twice : (m : ℕ) → 0 < m → m < 2 ^ l + 2 ^ l → m ≢ 2 ^ l → geo R l (pow R v m) ≡ 𝟘
  geo-below_twice m pos small ne = side (Nat.eq-zero-or-pos (m - 2 ^ l))
    where
      side : (m - 2 ^ l ≡ 0) ⊎ (0 < m - 2 ^ l) → geo R l (pow R v m) ≡ 𝟘
      side (inl e) = geo-root R l v root m pos (omega arith)
      side (inr p) =
          ap (geo R l)
          (ap (pow R v) (sym (Nat.add-sub_of_le (omega arith))) ∙ pow-add R v (2 ^ l) (m - 2 ^ l)
          ∙ ap (λ x. x ⊗ pow R v (m - 2 ^ l)) (root_power R l v root) ∙ Laws.one_mul R _)
          ∙ geo-root R l v root (m - 2 ^ l) p (omega arith)

  geo_unopposed : (a b : ℕ) → a < 2 ^ l → b < 2 ^ l → b ≢ opposite (2 ^ l) a → geo R l (pow R v (a + b)) ≡ 𝟘
  unfolding opposite
  geo_unopposed zero b ha hb ne = geo-below_twice (0 + b) (omega arith) (omega arith) (omega arith)
  geo_unopposed (suc a) b ha hb ne = geo-below_twice (suc a + b) (omega arith) (omega arith) (omega arith)

  -- only the opposite index stays
  sum_opposite : (x y : A) (a : ℕ) → a < 2 ^ l
      → sum R (2 ^ l) (λ b. pow R x a ⊗ pow R y b ⊗ geo R l (pow R v (a + b))) ≡ num R (2 ^ l) ⊗ (pow R x a ⊗ pow R y (opposite (2 ^ l) a))
  sum_opposite x y a h =
      sum_delta R (2 ^ l) (λ b. pow R x a ⊗ pow R y b ⊗ geo R l (pow R v (a + b))) (opposite (2 ^ l) a) (opposite_small (2 ^ l) a (two_pow-pos l))
      (λ b s ne. ap (λ g. pow R x a ⊗ pow R y b ⊗ g) (geo_unopposed a b h s ne) ∙ Laws.mul-zero R _)
      ∙ ap (λ g. pow R x a ⊗ pow R y (opposite (2 ^ l) a) ⊗ g) (ap (geo R l) (opposite_power a h) ∙ geo_one R l)
      ∙ mul_comm _ _

  -- the product of two geometric sums, turned i times, summed over i
  sum-turned : (x y : A)
      → sum R (2 ^ l) (λ i. geo R l (x ⊗ pow R v i) ⊗ geo R l (y ⊗ pow R v i)) ≡ num R (2 ^ l) ⊗ sum R (2 ^ l) (λ a. pow R x a ⊗ pow R y (opposite (2 ^ l) a))
  unfolding geo
  sum-turned x y =
      sum_cong R (2 ^ l) (λ i. sum-product R (2 ^ l) (2 ^ l) (pow R (x ⊗ pow R v i)) (pow R (y ⊗ pow R v i)))
      ∙ sum_swap R (2 ^ l) (2 ^ l) (λ i a. sum R (2 ^ l) (λ b. pow R (x ⊗ pow R v i) a ⊗ pow R (y ⊗ pow R v i) b))
      ∙ sum_cong_below R (2 ^ l) (λ a h.
      sum_swap R (2 ^ l) (2 ^ l) (λ i b. pow R (x ⊗ pow R v i) a ⊗ pow R (y ⊗ pow R v i) b)
      ∙ sum_cong R (2 ^ l) (λ b. sum_cong R (2 ^ l) (term a b) ∙ sum-mul R (2 ^ l) (pow R x a ⊗ pow R y b) (pow R (pow R v (a + b))))
      ∙ sum_opposite x y a h)
      ∙ sum-mul R (2 ^ l) (num R (2 ^ l)) (λ a. pow R x a ⊗ pow R y (opposite (2 ^ l) a))
    where
      term : (a b i : ℕ) → pow R (x ⊗ pow R v i) a ⊗ pow R (y ⊗ pow R v i) b ≡ pow R x a ⊗ pow R y b ⊗ pow R (pow R v (a + b)) i
      term a b i =
          ap₂ ◌⊗◌ (pow-mul R x (pow R v i) a) (pow-mul R y (pow R v i) b)
          ∙ solve R (pow R x a ∷ pow R y b ∷ pow R (pow R v i) a ∷ pow R (pow R v i) b ∷ []) (λ x y a b. x :* a :* (y :* b) := x :* y :* (a :* b)) refl
          ∙ ap (λ p. pow R x a ⊗ pow R y b ⊗ p) (sym (pow-add R (pow R v i) a b) ∙ pow_swap R v i (a + b))

  first_apart : (x y : A) → sum R (2 ^ l) (λ a. pow R x a ⊗ pow R y (opposite (2 ^ l) a)) ≡ 𝟙 ⊕ sum R (2 ^ l - 1) (λ k. pow R x (suc k) ⊗ pow R y (2 ^ l - suc k))
  unfolding pow opposite
  first_apart x y =
      ap (λ m. sum R m (λ a. pow R x a ⊗ pow R y (opposite (2 ^ l) a))) (sym (suc_pred (two_pow-pos l)))
      ∙ sum_first R (2 ^ l - 1) (λ a. pow R x a ⊗ pow R y (opposite (2 ^ l) a))
      ∙ ap (λ s. s ⊕ sum R (2 ^ l - 1) (λ k. pow R x (suc k) ⊗ pow R y (2 ^ l - suc k))) (mul_one 𝟙)

module _ {A : Type 0} {R : Ring A} {half : A} {l : ℕ} {w : A} (skip : Skip R half l w) where
  infixl 60 ◌⊕◌
  infixl 70 ◌⊗◌
  open R use {one as 𝟙, add as ◌⊕◌, mul as ◌⊗◌}

  -- half^l · (1 + Σ_{0<k<2^l} x^k · y^(2^l − k))
  pub eq_uni_closed : (x y : A) → eq_uni R half l w x y ≡ pow R half l ⊗ (𝟙 ⊕ sum R (2 ^ l - 1) (λ k. pow R x (suc k) ⊗ pow R y (2 ^ l - suc k)))
  unfolding eq_uni mean
  eq_uni_closed x y =
      sum_cong_below R (2 ^ l) (λ i h.
      ap₂ ◌⊗◌ (lagrange-mean skip i x (omega arith)) (lagrange-mean skip i y (omega arith))
      ∙ solve R (pow R half l ∷ geo R l (x ⊗ pow R v i) ∷ geo R l (y ⊗ pow R v i) ∷ []) (λ p g h. p :* g :* (p :* h) := p :* p :* (g :* h)) refl)
      ∙ sum-mul R (2 ^ l) (pow R half l ⊗ pow R half l) (λ i. geo R l (x ⊗ pow R v i) ⊗ geo R l (y ⊗ pow R v i))
      ∙ ap (λ s. pow R half l ⊗ pow R half l ⊗ s) (sum-turned R l v v-root x y ∙ ap (λ s. num R (2 ^ l) ⊗ s) (first_apart R l v v-root x y))
      ∙ solve R (pow R half l ∷ num R (2 ^ l) ∷ (𝟙 ⊕ sum R (2 ^ l - 1) (λ k. pow R x (suc k) ⊗ pow R y (2 ^ l - suc k))) ∷ [])
      (λ p n s. p :* p :* (n :* s) := p :* s given p :* s ⋆ p :* n ≈ :1) refl (half_pow R half skip.half_two l)
    where
      v : A
      v = inverse R l w

      v-root : IsRoot R l v
      v-root = root-inverse R l w v (mul-inverse R l w skip.root) skip.root

  -- what `eval_eq_uni` computes, which does not mention w
  pub eq_uni_loop : (x y : A) → eq_uni R half l w x y ≡ pow R half l ⊗ eq_loop R l x y
  eq_uni_loop x y = eq_uni_closed x y ∙ ap (λ s. pow R half l ⊗ s) (sym (eq_loop-sum R l x y))
