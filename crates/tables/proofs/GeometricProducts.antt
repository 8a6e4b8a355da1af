-- The product with the geometric kernel: the recurrence of the spread sums, the recurrence of the tails from the top, and that sum and tail are the product.
-- There is no division: all of it holds at every y.
use mathlib.Core.Path.{◌≡◌, refl, sym, ◌∙◌, ap, ap₂}
use mathlib.Core.List.{[], ◌∷◌}
use Prim.Native.Nat.{ℕ, zero, suc, ◌+◌, ◌*◌, ◌-◌, ◌%◌, ◌^◌, ◌<◌, ◌≤◌}
use native.Mathlib.Nat
use native.Mathlib.Omega.{arith}
use Rattle.algebra.specs.Ring.{Ring, sub, pow}
use Rattle.algebra.specs.Sum.{sum}
use Rattle.algebra.proofs.RingLaws as Laws
use Rattle.algebra.proofs.Expression.{◌:+◌, ◌:-◌, ◌:*◌, :1, :neg, ◌:=◌, ◌given◌⋆◌≈◌}
use Rattle.algebra.proofs.Solver.{solve}
use Rattle.algebra.proofs.Sums.{sum_cong, sum_cong_below, sum-mul, sum_swap, sum_first, sum_none, sum_grid}
use Rattle.algebra.proofs.Powers.{two_pow-pos, suc_pred}
use Rattle.tables.specs.Window.{below}
use Rattle.tables.proofs.Indices.{grid_mod}
use Rattle.tables.specs.Shifted.{shifted}
use Rattle.tables.specs.Product.{product_at}
use Rattle.tables.specs.Geometric.{geometric, spread, tail}
use Rattle.tables.proofs.Triangles.{sum-longer}
use Rattle.tables.proofs.Products.{below_in, below_out}
use Rattle.tables.proofs.Shifts.{shifted_early, shifted_at, shifted_none, shifted_one, shifted_twice, shifted_sum, shifted_late}

module _ {A : Type 0} (R : Ring A) where
  infixl 60 ◌⊕◌ ◌⊖◌
  infixl 70 ◌⊗◌
  open R use {zero as 𝟘, one as 𝟙, add as ◌⊕◌, mul as ◌⊗◌, neg, mul_one}

  abbrev ◌⊖◌ : A → A → A
  a ⊖ b = sub R a b

  -- e_j = a_j + e_(j−M) − a_(j−N)
  pub spread-step : (M c : ℕ) (a : ℕ → A) (j : ℕ)
      → spread R M c a j ≡ below R (M * c) a j ⊕ shifted R M (spread R M c a) j ⊖ shifted R (M * c) (below R (M * c) a) j
  unfolding spread sum
  spread-step M c a j =
      solve R (sum R c f ∷ f c ∷ f 0 ∷ sum R c (λ b. f (suc b)) ∷ []) (λ s l g t. s := g :+ t :- l given :1 ⋆ s :+ l ≈ g :+ t) refl (both ∙ sum_first R c f)
      ∙ ap₂ (λ x y. x ⊕ y ⊖ f c) (ap (λ n. shifted R n a' j) (Nat.mul-zero M) ∙ shifted_none R a' j) (sum_cong R c next ∙ sym (shifted_sum R M c (λ b. shifted R (M * b) a') j))
    where
      a' : ℕ → A
      a' = below R (M * c) a

      f : ℕ → A
      f b = shifted R (M * b) a' j

      both : sum R c f ⊕ f c ≡ sum R (suc c) f
      both = refl

      next : (b : ℕ) → f (suc b) ≡ shifted R M (shifted R (M * b) a') j
      next b = ap (λ n. shifted R n a' j) (Nat.mul-suc M b ∙ Nat.add_comm (M * b) M) ∙ sym (shifted_twice R M (M * b) a' j)

  -- zero from 2N − M on
  pub spread_late : (M c : ℕ) (a : ℕ → A) (j : ℕ) → 2 * (M * c) - M ≤ j → spread R M c a j ≡ 𝟘
  unfolding spread
  spread_late M c a j h =
      sum_none R c _ (λ b l. shifted_late R (M * b) (M * c) (below R (M * c) a) j (λ i g. below_out R (M * c) a i g) (omega (arith, Nat.mul-suc M b, Nat.mul-le-mul_left M l)))

  tail_is : (m : ℕ) (y : A) (e : ℕ → A) (j : ℕ) → tail R (suc m) y e j ≡ sum R m (λ i. pow R y (suc m - suc i) ⊗ shifted R (suc i) e j)
  unfolding tail
  tail_is m y e j = ap (λ n. sum R n (λ i. pow R y (suc m - suc i) ⊗ shifted R (suc i) e j)) {x = suc m - 1} {y = m} (omega arith)

  -- R_j = y · (R_(j+1) + e_(j+1−M)) − y^M · e_j
  pub tail_step : (M : ℕ) (y : A) (e : ℕ → A) (j : ℕ) → 0 < M → tail R M y e j ≡ y ⊗ (tail R M y e (suc j) ⊕ shifted R M e (suc j)) ⊖ pow R y M ⊗ e j
  unfolding sum pow
  tail_step zero y e j h = absurd (omega arith)
  tail_step (suc m) y e j h =
      tail_is m y e j
      ∙ solve R (y ∷ sum R m (λ i. g (suc i)) ∷ g 0 ∷ sum R m g ∷ g m ∷ tail R (suc m) y e (suc j) ∷ shifted R (suc m) e (suc j) ∷ pow R y (suc m) ⊗ e j ∷ [])
      (λ y t g0 s gm u l x. t := y :* (u :+ l) :- x given :neg :1 ⋆ s :+ gm ≈ g0 :+ t given :1 ⋆ s ≈ y :* u given :1 ⋆ gm ≈ y :* l given :neg :1 ⋆ g0 ≈ x) refl
      (sum_first R m g) rest last first
    where
      g : ℕ → A
      g i = pow R y (suc m - i) ⊗ shifted R i e j

      power : (i : ℕ) → i ≤ m → pow R y (suc m - i) ≡ y ⊗ pow R y (m - i)
      power i l = ap (pow R y) {x = suc m - i} {y = suc (m - i)} (omega arith)

      first : g 0 ≡ pow R y (suc m) ⊗ e j
      first = ap₂ (λ n x. pow R y n ⊗ x) {x = suc m - 0} {y = suc m} (omega arith) (shifted_none R e j)

      last : g m ≡ y ⊗ shifted R (suc m) e (suc j)
      last = ap₂ ◌⊗◌ (ap (pow R y) {x = suc m - m} {y = 1} (omega arith) ∙ mul_one y) (sym (shifted_one R m e j))

      rest : sum R m g ≡ y ⊗ tail R (suc m) y e (suc j)
      rest =
          sum_cong_below R m (λ i l.
          ap₂ ◌⊗◌ (power i (omega arith) ∙ ap (λ n. y ⊗ pow R y n) {x = m - i} {y = suc m - suc i} (omega arith)) (sym (shifted_one R i e j)) ∙ R.mul_assoc _ _ _)
          ∙ sum-mul R m y _ ∙ ap (λ x. y ⊗ x) (sym (tail_is m y e (suc j)))

  -- above the top there is nothing
  pub tail_late : (M n : ℕ) (y : A) (e : ℕ → A) (j : ℕ) → ((i : ℕ) → n ≤ i → e i ≡ 𝟘) → n + M ≤ suc j → tail R M y e j ≡ 𝟘
  unfolding tail
  tail_late M n y e j z h =
      sum_none R (M - 1) _ (λ i l. ap (λ x. pow R y (M - suc i) ⊗ x) (shifted_late R (suc i) n e j z (omega arith)) ∙ Laws.mul-zero R _)

  -- a product with Z-shifts for the second factor, over n or more terms
  pub product-shifted : (n : ℕ) (f g : ℕ → A) (j : ℕ) → product_at R n f g j ≡ sum R n (λ i. f i ⊗ shifted R i (below R n g) j)
  unfolding product_at
  product-shifted n f g j =
      sum_cong_below R (suc j) (λ i l. ap (λ x. F i ⊗ x) (sym (shifted_at R i G j (omega arith))))
      ∙ sym (sum-longer R (suc j) (suc j + n) term (omega arith) (λ i l. ap (λ x. F i ⊗ x) (shifted_early R i G j (omega arith)) ∙ Laws.mul-zero R _))
      ∙ sum-longer R n (suc j + n) term (omega arith) (λ i l. ap (λ x. x ⊗ shifted R i G j) (below_out R n f i l) ∙ Laws.zero-mul R _)
      ∙ sum_cong_below R n (λ i l. ap (λ x. x ⊗ shifted R i G j) (below_in R n f i l))
    where
      F : ℕ → A
      F = below R n f

      G : ℕ → A
      G = below R n g

      term : ℕ → A
      term i = F i ⊗ shifted R i G j

  -- for N = M · c: the product with the kernel is half^l · (e_j + R_j)
  module _ (half : A) (o d : ℕ) (y : A) (a : ℕ → A) (j : ℕ) where
    abbrev M : ℕ
    M = 2 ^ o

    abbrev c : ℕ
    c = 2 ^ d

    abbrev e : ℕ → A
    e = spread R M c a

    abbrev h : A
    h = pow R half (o + d)

    -- a block's sum
    block : (i : ℕ) → i < M → sum R c (λ b. geometric R half (o + d) o y (i + M * b) ⊗ shifted R (i + M * b) (below R (M * c) a) j) ≡ h ⊗ (pow R y ((M - i) % M) ⊗ shifted R i e j)
    unfolding geometric spread
    block i l =
        sum_cong R c (λ b.
        ap (λ k. h ⊗ pow R y ((M - k) % M) ⊗ shifted R (i + M * b) (below R (M * c) a) j) (grid_mod M i b l) ∙ ap (λ x. h ⊗ pow R y ((M - i) % M) ⊗ x) (sym (shifted_twice R i (M * b) (below R (M * c) a) j)))
        ∙ sum-mul R c (h ⊗ pow R y ((M - i) % M)) (λ b. shifted R i (shifted R (M * b) (below R (M * c) a)) j)
        ∙ R.mul_assoc _ _ _
        ∙ ap (λ x. h ⊗ (pow R y ((M - i) % M) ⊗ x)) (sym (shifted_sum R i c (λ b. shifted R (M * b) (below R (M * c) a)) j))

    pub geometric-product : product_at R (M * c) (geometric R half (o + d) o y) a j ≡ h ⊗ (e j ⊕ tail R M y e j)
    unfolding tail pow
    geometric-product =
        product-shifted (M * c) (geometric R half (o + d) o y) a j
        ∙ sum_grid R M c (λ k. geometric R half (o + d) o y k ⊗ shifted R k (below R (M * c) a) j)
        ∙ sum_swap R c M (λ b i. geometric R half (o + d) o y (i + M * b) ⊗ shifted R (i + M * b) (below R (M * c) a) j)
        ∙ sum_cong_below R M block
        ∙ sum-mul R M h (λ i. pow R y ((M - i) % M) ⊗ shifted R i e j)
        ∙ ap (λ x. h ⊗ x)
        (ap (λ n. sum R n (λ i. pow R y ((M - i) % M) ⊗ shifted R i e j)) (sym (suc_pred (two_pow-pos o)))
        ∙ sum_first R (M - 1) (λ i. pow R y ((M - i) % M) ⊗ shifted R i e j)
        ∙ ap₂ ◌⊕◌ first (sum_cong_below R (M - 1) (λ i l. ap (λ n. pow R y n ⊗ shifted R (suc i) e j) (Nat.mod-eq_of_lt {n = M - suc i} {m = M} (omega arith)))))
      where
        first : pow R y ((M - 0) % M) ⊗ shifted R 0 e j ≡ e j
        first = ap₂ (λ n x. pow R y n ⊗ x) (ap (λ n. n % M) {x = M - 0} {y = M} (omega arith) ∙ Nat.mod_self M) (shifted_none R e j) ∙ Laws.one_mul R (e j)
