-- The value of a polynomial as a sum over its coefficients.
use mathlib.Core.Path.{◌≡◌, sym, ◌∙◌, ap, ap₂}
use mathlib.Core.List.{List, [], ◌∷◌}
use Prim.Native.Nat.{ℕ, zero, suc, ◌≤◌}
use native.Mathlib.Nat
use native.Mathlib.Omega.{arith}
use lib.ListN.{length, get_or}
use Rattle.algebra.specs.Ring.{Ring, pow}
use Rattle.algebra.specs.Sum.{sum}
use Rattle.algebra.specs.Polynomial.{value}
use Rattle.algebra.specs.Listed.{listed}
use Rattle.algebra.proofs.Lists.{length-listed, get_d_listed}
use Rattle.algebra.proofs.RingLaws as Laws
use Rattle.algebra.proofs.Sums.{sum_cong, sum_cong_below, sum-mul, sum_first, sum_none}

module _ {A : Type 0} (R : Ring A) where
  infixl 60 ◌⊕◌
  infixl 70 ◌⊗◌
  open R use {zero as 𝟘, add as ◌⊕◌, mul as ◌⊗◌, mul_one}

  -- over at least as many terms as there are coefficients
  pub value-sum : (cs : List A) (n : ℕ) (x : A) → length cs ≤ n → value R cs x ≡ sum R n (λ k. get_or cs k 𝟘 ⊗ pow R x k)
  unfolding value pow
  value-sum [] n x h = sym (sum_none R n (λ k. 𝟘 ⊗ pow R x k) (λ k _. Laws.zero-mul R (pow R x k)))
  value-sum (c ∷ cs) zero x h = absurd (omega arith)
  value-sum (c ∷ cs) (suc n) x h =
      ap (λ s. c ⊕ x ⊗ s) (value-sum cs n x (Nat.le_of_suc-le-suc h))
      ∙ ap₂ ◌⊕◌ (sym (mul_one c)) (sym (sum-mul R n x (λ k. get_or cs k 𝟘 ⊗ pow R x k)) ∙ sum_cong R n (λ k. Laws.mul_left_comm R x (get_or cs k 𝟘) (pow R x k)))
      ∙ sym (sum_first R n (λ k. get_or (c ∷ cs) k 𝟘 ⊗ pow R x k))

  pub value-listed : (n : ℕ) (f : ℕ → A) (x : A) → value R (listed n f) x ≡ sum R n (λ k. f k ⊗ pow R x k)
  value-listed n f x =
      value-sum (listed n f) n x (Nat.le_of_eq (length-listed n f)) ∙ sum_cong_below R n (λ k h. ap (λ c. c ⊗ pow R x k) (get_d_listed n f k 𝟘 h))
