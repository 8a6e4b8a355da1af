-- Laws of finite sums: term by term, factors, order of summation, parts, and sums with one term that is not zero.
use mathlib.Core.Path.{◌≡◌, refl, sym, ◌∙◌, ap, ap₂, fun_ext}
use mathlib.Core.Logic.{◌≢◌, ◌⊎◌, inl, inr}
use mathlib.Core.List.{[], ◌∷◌}
use Prim.Native.Nat.{ℕ, zero, suc, ◌+◌, ◌*◌, ◌^◌, ◌<◌}
use native.Mathlib.Nat
use native.Mathlib.Nat.{eq-or-lt_of_le, le_of_suc-le-suc, pow-succ'}
use native.Mathlib.Omega.{arith}
use Rattle.algebra.specs.Ring.{Ring, num}
use Rattle.algebra.specs.Sum.{sum, product}
use Rattle.algebra.proofs.RingLaws as Laws
use Rattle.algebra.proofs.Expression.{:1, ◌:+◌, ◌:*◌, ◌:=◌}
use Rattle.algebra.proofs.Solver.{solve}

module _ {A : Type 0} (R : Ring A) where
  infixl 60 ◌⊕◌
  infixl 70 ◌⊗◌
  open R use {zero as 𝟘, one as 𝟙, add as ◌⊕◌, mul as ◌⊗◌, add_assoc, add_comm, add_zero, mul_assoc, mul_comm, mul_add}

  pub sum_cong : (n : ℕ) {f g : ℕ → A} → ((i : ℕ) → f i ≡ g i) → sum R n f ≡ sum R n g
  sum_cong n h = ap (sum R n) (fun_ext h)

  pub sum_cong_below : (n : ℕ) {f g : ℕ → A} → ((i : ℕ) → i < n → f i ≡ g i) → sum R n f ≡ sum R n g
  unfolding sum
  sum_cong_below zero h = refl
  sum_cong_below (suc n) h = ap₂ ◌⊕◌ (sum_cong_below n (λ i l. h i (omega arith))) (h n (omega arith))

  pub sum-zero : (n : ℕ) → sum R n (λ _. 𝟘) ≡ 𝟘
  unfolding sum
  sum-zero zero = refl
  sum-zero (suc n) = add_zero _ ∙ sum-zero n

  pub sum-add : (n : ℕ) (f g : ℕ → A) → sum R n (λ i. f i ⊕ g i) ≡ sum R n f ⊕ sum R n g
  unfolding sum
  sum-add zero f g = sym (add_zero 𝟘)
  sum-add (suc n) f g = ap (λ x. x ⊕ (f n ⊕ g n)) (sum-add n f g) ∙ Laws.add_swap R (sum R n f) (sum R n g) (f n) (g n)

  pub sum-mul : (n : ℕ) (c : A) (f : ℕ → A) → sum R n (λ i. c ⊗ f i) ≡ c ⊗ sum R n f
  unfolding sum
  sum-mul zero c f = sym (Laws.mul-zero R c)
  sum-mul (suc n) c f = ap (λ x. x ⊕ c ⊗ f n) (sum-mul n c f) ∙ sym (mul_add c (sum R n f) (f n))

  pub sum-mul-right : (n : ℕ) (c : A) (f : ℕ → A) → sum R n (λ i. f i ⊗ c) ≡ sum R n f ⊗ c
  sum-mul-right n c f = sum_cong n (λ i. mul_comm (f i) c) ∙ sum-mul n c f ∙ mul_comm c (sum R n f)

  pub sum_const : (n : ℕ) (c : A) → sum R n (λ _. c) ≡ num R n ⊗ c
  unfolding sum num
  sum_const zero c = sym (Laws.zero-mul R c)
  sum_const (suc n) c = ap (λ x. x ⊕ c) (sum_const n c) ∙ solve R (num R n ∷ c ∷ []) (λ n c. n :* c :+ c := (:1 :+ n) :* c) refl

  pub sum_swap : (n m : ℕ) (f : ℕ → ℕ → A) → sum R n (λ i. sum R m (f i)) ≡ sum R m (λ j. sum R n (λ i. f i j))
  unfolding sum
  sum_swap zero m f = sym (sum-zero m)
  sum_swap (suc n) m f = ap (λ x. x ⊕ sum R m (f n)) (sum_swap n m f) ∙ sym (sum-add m (λ j. sum R n (λ i. f i j)) (f n))

  pub sum-product : (n m : ℕ) (f g : ℕ → A) → sum R n f ⊗ sum R m g ≡ sum R n (λ i. sum R m (λ j. f i ⊗ g j))
  sum-product n m f g = sym (sum-mul-right n (sum R m g) f) ∙ sum_cong n (λ i. sym (sum-mul m (f i) g))

  pub sum_split : (n m : ℕ) (f : ℕ → A) → sum R (n + m) f ≡ sum R n f ⊕ sum R m (λ i. f (n + i))
  unfolding sum
  sum_split n zero f = rw Nat.add-zero (sym (add_zero _))
  sum_split n (suc m) f = rw (Nat.add-suc n m) (ap (λ x. x ⊕ f (n + m)) (sum_split n m f) ∙ add_assoc _ _ _)

  pub sum_single : (f : ℕ → A) → sum R 1 f ≡ f 0
  unfolding sum
  sum_single f = Laws.zero-add R (f 0)

  pub sum_first : (n : ℕ) (f : ℕ → A) → sum R (suc n) f ≡ f 0 ⊕ sum R n (λ i. f (suc i))
  unfolding sum
  sum_first zero f = add_comm 𝟘 (f 0)
  sum_first (suc n) f = ap (λ x. x ⊕ f (suc n)) (sum_first n f) ∙ add_assoc _ _ _

  -- an index i + N · j
  pub sum_grid : (N m : ℕ) (f : ℕ → A) → sum R (N * m) f ≡ sum R m (λ j. sum R N (λ i. f (i + N * j)))
  unfolding sum
  sum_grid N zero f = rw Nat.mul-zero
  sum_grid N (suc m) f =
      ap (λ k. sum R k f) (Nat.mul-suc N m) ∙ sum_split (N * m) N f
      ∙ ap₂ ◌⊕◌ (sum_grid N m f) (sum_cong N (λ i. ap f (Nat.add_comm (N * m) i)))

  -- the even and the odd indices
  pub sum_even_odd : (n : ℕ) (f : ℕ → A) → sum R (2 * n) f ≡ sum R n (λ i. f (2 * i)) ⊕ sum R n (λ i. f (2 * i + 1))
  unfolding sum
  sum_even_odd n f =
      sum_grid 2 n f
      ∙ sum_cong n (λ j. ap (λ x. x ⊕ f (1 + 2 * j)) (Laws.zero-add R (f (0 + 2 * j))) ∙ ap₂ (λ a b. f a ⊕ f b) (Nat.zero-add (2 * j)) (Nat.add_comm 1 (2 * j)))
      ∙ sum-add n (λ i. f (2 * i)) (λ i. f (2 * i + 1))

  -- at most one term is not zero
  pub sum_none : (n : ℕ) (f : ℕ → A) → ((i : ℕ) → i < n → f i ≡ 𝟘) → sum R n f ≡ 𝟘
  sum_none n f h = sum_cong_below n h ∙ sum-zero n

  pub sum_delta : (n : ℕ) (f : ℕ → A) (k : ℕ) → k < n → ((i : ℕ) → i < n → i ≢ k → f i ≡ 𝟘) → sum R n f ≡ f k
  unfolding sum
  sum_delta zero f k l h = absurd (Nat.not-suc-le-zero l)
  sum_delta (suc n) f k l h = last (eq-or-lt_of_le (le_of_suc-le-suc l)) (sum_delta n f k)
    where
      last : (k ≡ n) ⊎ (k < n) → (k < n → ((i : ℕ) → i < n → i ≢ k → f i ≡ 𝟘) → sum R n f ≡ f k) → sum R (suc n) f ≡ f k
      last (inl e) ih = ap₂ ◌⊕◌ (sum_none n f (λ i s. h i (omega arith) (omega arith))) (ap f (sym e)) ∙ Laws.zero-add R (f k)
      last (inr s) ih = ap₂ ◌⊕◌ (ih s (λ i t. h i (omega arith))) (h n (omega arith) (omega arith)) ∙ add_zero (f k)

  -- twice as many indices, by their lowest bits
  pub sum_lowest : (n : ℕ) (f : ℕ → A) → sum R (2 ^ suc n) f ≡ sum R (2 ^ n) (λ i. f (2 * i)) ⊕ sum R (2 ^ n) (λ i. f (2 * i + 1))
  sum_lowest n f = ap (λ k. sum R k f) (pow-succ' 2 n) ∙ sum_even_odd (2 ^ n) f

  pub product_first : (n : ℕ) (f : ℕ → A) → product R (suc n) f ≡ f 0 ⊗ product R n (λ i. f (suc i))
  unfolding product
  product_first zero f = mul_comm 𝟙 (f 0)
  product_first (suc n) f = ap (λ p. p ⊗ f (suc n)) (product_first n f) ∙ mul_assoc _ _ _
