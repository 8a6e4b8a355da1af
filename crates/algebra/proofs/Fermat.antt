-- The binomial theorem, and Fermat's little theorem for the numbers of a domain.
use mathlib.Core.Path.{◌≡◌, refl, sym, ◌∙◌, ap, ap₂}
use mathlib.Core.Logic.{◌≢◌}
use mathlib.Core.List.{[], ◌∷◌}
use Prim.Native.Nat.{ℕ, zero, suc, ◌+◌, ◌*◌, ◌<◌}
use native.Mathlib.Nat
use native.Mathlib.Omega.{arith}
use Rattle.algebra.specs.Ring.{Ring, Domain, num, pow}
use Rattle.algebra.specs.Sum.{sum}
use Rattle.algebra.proofs.RingLaws as Laws
use Rattle.algebra.proofs.Expression.{:0, :1, ◌:+◌, ◌:*◌, :neg, ◌:=◌, ◌given◌⋆◌≈◌}
use Rattle.algebra.proofs.Solver.{num_one, num-add, num-mul, solve}
use Rattle.algebra.proofs.Sums.{sum_cong, sum-add, sum-mul, sum_first, sum_none}

unfoldable pub binom : ℕ → ℕ → ℕ
binom n zero = 1
binom zero (suc k) = 0
binom (suc n) (suc k) = binom n k + binom n (suc k)

binom-over : (n k : ℕ) → n < k → binom n k ≡ 0
unfolding binom
binom-over n zero h = absurd (omega arith)
binom-over zero (suc k) h = refl
binom-over (suc n) (suc k) h = ap₂ ◌+◌ (binom-over n k (omega arith)) (binom-over n (suc k) (omega arith))

binom_self : (n : ℕ) → binom n n ≡ 1
unfolding binom
binom_self zero = refl
binom_self (suc n) = ap₂ ◌+◌ (binom_self n) (binom-over n (suc n) (omega arith))

-- (k + 1) · C(n + 1, k + 1) is (n + 1) · C(n, k)
pub absorb : (n k : ℕ) → suc k * binom (suc n) (suc k) ≡ suc n * binom n k
unfolding binom
absorb zero zero = refl
absorb zero (suc k) = Nat.mul-zero (suc (suc k))
absorb (suc n) zero = let ih : 1 * binom (suc n) 1 ≡ suc n * 1 = absorb n 0 in omega arith
absorb (suc n) (suc j) = step (binom n j) (binom n (suc j)) (binom (suc n) (suc (suc j))) (absorb n j) (absorb n (suc j))
  where
    step : (u v y : ℕ) → suc j * (u + v) ≡ suc n * u → suc (suc j) * y ≡ suc n * v → suc (suc j) * (u + v + y) ≡ suc (suc n) * (u + v)
    step u v y p q =
        omega (arith, Nat.mul-add (suc (suc j)) (u + v) y, Nat.suc-mul (suc j) (u + v), Nat.suc-mul (suc n) (u + v), Nat.mul-add (suc n) u v)

module _ {A : Type 0} (R : Ring A) where
  infixl 60 ◌⊕◌
  infixl 70 ◌⊗◌
  open R use {zero as 𝟘, one as 𝟙, add as ◌⊕◌, mul as ◌⊗◌, add_assoc, add_zero, mul_one}

  abbrev term : ℕ → A → ℕ → A
  term n a k = num R (binom n k) ⊗ pow R a k

  pub binomial : (a : A) (n : ℕ) → pow R (𝟙 ⊕ a) n ≡ sum R (suc n) (term n a)
  unfolding pow binom sum num
  binomial a zero = solve R (num R 1 ∷ []) (λ o. :1 := :0 :+ o :* :1 given :neg :1 ⋆ o ≈ :1) refl (num_one R)
  binomial a (suc n) =
      ap (λ x. (𝟙 ⊕ a) ⊗ x) (binomial a n)
      ∙ solve R (a ∷ sum R (suc n) (term n a) ∷ []) (λ a s. (:1 :+ a) :* s := s :+ a :* s) refl
      ∙ ap₂ ◌⊕◌ shift (sym (sum-mul R (suc n) a (term n a)) ∙ sum_cong R (suc n) times)
      ∙ add_assoc _ _ _
      ∙ ap (λ x. term n a 0 ⊕ x) (sym (sum-add R (suc n) (λ k. term n a (suc k)) (λ k. num R (binom n k) ⊗ pow R a (suc k))) ∙ sum_cong R (suc n) pascal)
      ∙ sym (sum_first R (suc n) (term (suc n) a))
    where
      times : (k : ℕ) → a ⊗ term n a k ≡ num R (binom n k) ⊗ pow R a (suc k)
      times k = solve R (a ∷ num R (binom n k) ∷ pow R a k ∷ []) (λ a c x. a :* (c :* x) := c :* (a :* x)) refl

      pascal : (k : ℕ) → term n a (suc k) ⊕ num R (binom n k) ⊗ pow R a (suc k) ≡ term (suc n) a (suc k)
      pascal k =
          solve R (num R (binom n (suc k)) ∷ num R (binom n k) ∷ pow R a (suc k) ∷ num R (binom n k + binom n (suc k)) ∷ [])
          (λ c d x s. c :* x :+ d :* x := s :* x given :neg x ⋆ s ≈ d :+ c) refl (num-add R (binom n k) (binom n (suc k)))

      -- the term past the end is zero
      shift : sum R (suc n) (term n a) ≡ term n a 0 ⊕ sum R (suc n) (λ k. term n a (suc k))
      shift =
          sym (add_zero _)
          ∙ ap (λ x. sum R (suc n) (term n a) ⊕ x) (sym (Laws.zero-mul R (pow R a (suc n))) ∙ ap (λ x. num R x ⊗ pow R a (suc n)) (sym (binom-over n (suc n) (omega arith))))
          ∙ sum_first R (suc n) (term n a)

  -- in a domain where the prime is zero
  module _ (domain : Domain R) (q : ℕ) (char : num R (suc q) ≡ 𝟘) (least : (k : ℕ) → 0 < k → k < suc q → num R k ≢ 𝟘) where
    middle : (k : ℕ) → k < q → num R (binom (suc q) (suc k)) ≡ 𝟘
    middle k h =
        domain (num R (suc k)) (num R (binom (suc q) (suc k))) (least (suc k) (omega arith) (omega arith))
        (sym (num-mul R (suc k) (binom (suc q) (suc k))) ∙ ap (num R) (absorb q k) ∙ num-mul R (suc q) (binom q k)
        ∙ ap (λ x. x ⊗ num R (binom q k)) char ∙ Laws.zero-mul R _)

    dream : (a : A) → pow R (𝟙 ⊕ a) (suc q) ≡ 𝟙 ⊕ pow R a (suc q)
    unfolding sum binom pow
    dream a =
        binomial a (suc q) ∙ sum_first R (suc q) (term (suc q) a)
        ∙ ap₂ ◌⊕◌ (mul_one _ ∙ num_one R)
        (ap₂ ◌⊕◌ (sum_none R q _ (λ k h. ap (λ x. x ⊗ pow R a (suc k)) (middle k h) ∙ Laws.zero-mul R _))
        (ap (λ x. num R x ⊗ pow R a (suc q)) (binom_self (suc q)) ∙ ap (λ x. x ⊗ pow R a (suc q)) (num_one R) ∙ Laws.one_mul R _)
        ∙ Laws.zero-add R _)

    pub fermat : (n : ℕ) → pow R (num R n) (suc q) ≡ num R n
    unfolding num pow
    fermat zero = Laws.zero-mul R _
    fermat (suc n) = dream (num R n) ∙ ap (λ x. 𝟙 ⊕ x) (fermat n)
