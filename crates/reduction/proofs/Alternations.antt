-- Two lists in alternation: the length, the entries, and the value as a polynomial.
use mathlib.Core.Path.{◌≡◌, refl, sym, ◌∙◌, ap, ap₂}
use mathlib.Core.List.{[], ◌∷◌}
use Prim.Native.Nat.{ℕ, zero, suc, ◌+◌, ◌*◌, ◌<◌}
use native.Mathlib.Omega.{arith}
use lib.ListN.{length, get_or}
use Rattle.algebra.specs.Ring.{Ring, pow}
use Rattle.algebra.specs.Sum.{sum}
use Rattle.algebra.specs.Polynomial.{value}
use Rattle.algebra.proofs.Expression.{◌:+◌, ◌:*◌, ◌:=◌, :1}
use Rattle.algebra.proofs.Solver.{solve}
use Rattle.algebra.proofs.Sums.{sum_cong, sum-mul, sum_first}
use Rattle.reduction.specs.Senders.{alternating}

module _ {A : Type 0} where
  pub length-alternating : (n : ℕ) (a b : ℕ → A) → length (alternating n a b) ≡ 2 * n
  unfolding alternating
  length-alternating zero a b = refl
  length-alternating (suc n) a b = let e = length-alternating n (λ k. a (suc k)) (λ k. b (suc k)) in omega arith

  pub alternating_same : (n : ℕ) (a b c d : ℕ → A) → alternating n a b ≡ alternating n c d → (k : ℕ) → k < n → (a k ≡ c k) × (b k ≡ d k)
  unfolding alternating
  alternating_same zero a b c d e k h = absurd (omega arith)
  alternating_same (suc n) a b c d e zero h = (cc, cc)
  alternating_same (suc n) a b c d e (suc k) h =
      let t : alternating n (λ k. a (suc k)) (λ k. b (suc k)) ≡ alternating n (λ k. c (suc k)) (λ k. d (suc k)) = cc in
      alternating_same n (λ k. a (suc k)) (λ k. b (suc k)) (λ k. c (suc k)) (λ k. d (suc k)) t k (omega arith)

  pub alternating_even : (n : ℕ) (a b : ℕ → A) (j : ℕ) (d : A) → j < n → get_or (alternating n a b) (2 * j) d ≡ a j
  unfolding alternating
  alternating_even zero a b j d h = absurd (omega arith)
  alternating_even (suc n) a b zero d h = refl
  alternating_even (suc n) a b (suc j) d h =
      ap (λ i. get_or (alternating (suc n) a b) i d) {x = 2 * suc j} {y = suc (suc (2 * j))} (omega arith)
      ∙ alternating_even n (λ k. a (suc k)) (λ k. b (suc k)) j d (omega arith)

  pub alternating_odd : (n : ℕ) (a b : ℕ → A) (j : ℕ) (d : A) → j < n → get_or (alternating n a b) (2 * j + 1) d ≡ b j
  unfolding alternating
  alternating_odd zero a b j d h = absurd (omega arith)
  alternating_odd (suc n) a b zero d h = refl
  alternating_odd (suc n) a b (suc j) d h =
      ap (λ i. get_or (alternating (suc n) a b) i d) {x = 2 * suc j + 1} {y = suc (suc (2 * j + 1))} (omega arith)
      ∙ alternating_odd n (λ k. a (suc k)) (λ k. b (suc k)) j d (omega arith)

module _ {A : Type 0} (R : Ring A) where
  infixl 60 ◌⊕◌
  infixl 70 ◌⊗◌
  open R use {add as ◌⊕◌, mul as ◌⊗◌}

  pub value-alternating : (n : ℕ) (a b : ℕ → A) (x : A)
      → value R (alternating n a b) x ≡ sum R n (λ k. pow R x (2 * k) ⊗ a k ⊕ pow R x (2 * k + 1) ⊗ b k)
  unfolding value alternating sum pow
  value-alternating zero a b x = refl
  value-alternating (suc n) a b x =
      ap (λ y. a 0 ⊕ x ⊗ (b 0 ⊕ x ⊗ y)) (value-alternating n (λ k. a (suc k)) (λ k. b (suc k)) x)
      ∙ solve R (a 0 ∷ b 0 ∷ x ∷ rest ∷ []) (λ a b x r. a :+ x :* (b :+ x :* r) := (:1 :* a :+ (x :* :1) :* b) :+ (x :* x) :* r) refl
      ∙ ap (λ y. (pow R x 0 ⊗ a 0 ⊕ pow R x 1 ⊗ b 0) ⊕ y)
      (sym (sum-mul R n (x ⊗ x) (λ k. pow R x (2 * k) ⊗ a (suc k) ⊕ pow R x (2 * k + 1) ⊗ b (suc k))) ∙ sum_cong R n step)
      ∙ sym (sum_first R n (λ k. pow R x (2 * k) ⊗ a k ⊕ pow R x (2 * k + 1) ⊗ b k))
    where
      rest : A
      rest = sum R n (λ k. pow R x (2 * k) ⊗ a (suc k) ⊕ pow R x (2 * k + 1) ⊗ b (suc k))

      step : (k : ℕ) → (x ⊗ x) ⊗ (pow R x (2 * k) ⊗ a (suc k) ⊕ pow R x (2 * k + 1) ⊗ b (suc k)) ≡ pow R x (2 * suc k) ⊗ a (suc k) ⊕ pow R x (2 * suc k + 1) ⊗ b (suc k)
      step k =
          let e : suc (suc (2 * k)) ≡ 2 * suc k = omega arith in
          let f : suc (suc (2 * k + 1)) ≡ 2 * suc k + 1 = omega arith in
          solve R (x ∷ pow R x (2 * k) ∷ pow R x (2 * k + 1) ∷ a (suc k) ∷ b (suc k) ∷ [])
          (λ x p q a b. (x :* x) :* (p :* a :+ q :* b) := (x :* (x :* p)) :* a :+ (x :* (x :* q)) :* b) refl
          ∙ ap₂ (λ i j. pow R x i ⊗ a (suc k) ⊕ pow R x j ⊗ b (suc k)) e f
