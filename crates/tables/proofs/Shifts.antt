-- The coefficients of Z^d · f: where they stand, products of shifts, and what goes inside.
use mathlib.Core.Path.{◌≡◌, refl, sym, ◌∙◌, ap}
use Prim.Native.Nat.{ℕ, zero, suc, ◌+◌, ◌-◌, ◌<◌, ◌≤◌}
use native.Mathlib.Nat
use native.Mathlib.Omega.{arith}
use Rattle.algebra.specs.Ring.{Ring}
use Rattle.algebra.specs.Sum.{sum}
use Rattle.algebra.proofs.Sums.{sum-zero}
use Rattle.tables.specs.Shifted.{shifted}

module _ {A : Type 0} (R : Ring A) where
  infixl 60 ◌⊕◌
  infixl 70 ◌⊗◌
  open R use {zero as 𝟘, add as ◌⊕◌, mul as ◌⊗◌}

  pub shifted_early : (d : ℕ) (f : ℕ → A) (j : ℕ) → j < d → shifted R d f j ≡ 𝟘
  unfolding shifted
  shifted_early zero f j h = absurd (omega arith)
  shifted_early (suc d) f zero h = refl
  shifted_early (suc d) f (suc j) h = shifted_early d f j (omega arith)

  pub shifted_at : (d : ℕ) (f : ℕ → A) (j : ℕ) → d ≤ j → shifted R d f j ≡ f (j - d)
  unfolding shifted
  shifted_at zero f j h = ap f {x = j} {y = j - 0} (omega arith)
  shifted_at (suc d) f zero h = absurd (omega arith)
  shifted_at (suc d) f (suc j) h = shifted_at d f j (omega arith) ∙ ap f {x = j - d} {y = suc j - suc d} (omega arith)

  pub shifted_none : (f : ℕ → A) (j : ℕ) → shifted R 0 f j ≡ f j
  unfolding shifted
  shifted_none f j = refl

  pub shifted_one : (d : ℕ) (f : ℕ → A) (j : ℕ) → shifted R (suc d) f (suc j) ≡ shifted R d f j
  unfolding shifted
  shifted_one d f j = refl

  -- one shift after another
  pub shifted_twice : (c d : ℕ) (f : ℕ → A) (j : ℕ) → shifted R c (shifted R d f) j ≡ shifted R (c + d) f j
  unfolding shifted
  shifted_twice zero d f j = ap (λ n. shifted R n f j) (sym (Nat.zero-add d))
  shifted_twice (suc c) d f zero = ap (λ n. shifted R n f 0) (sym (Nat.suc-add c d))
  shifted_twice (suc c) d f (suc j) = shifted_twice c d f j ∙ ap (λ n. shifted R n f (suc j)) (sym (Nat.suc-add c d))

  -- sums go inside
  pub shifted_sum : (d n : ℕ) (f : ℕ → ℕ → A) (j : ℕ) → shifted R d (λ i. sum R n (λ b. f b i)) j ≡ sum R n (λ b. shifted R d (f b) j)
  unfolding shifted
  shifted_sum zero n f j = refl
  shifted_sum (suc d) n f zero = sym (sum-zero R n)
  shifted_sum (suc d) n f (suc j) = shifted_sum d n f j

  -- equal up to j
  pub shifted_cong : (d : ℕ) (f g : ℕ → A) (j : ℕ) → ((i : ℕ) → i ≤ j → f i ≡ g i) → shifted R d f j ≡ shifted R d g j
  unfolding shifted
  shifted_cong zero f g j h = h j (omega arith)
  shifted_cong (suc d) f g zero h = refl
  shifted_cong (suc d) f g (suc j) h = shifted_cong d f g j (λ i l. h i (omega arith))

  -- zero from n on
  pub shifted_late : (d n : ℕ) (f : ℕ → A) (j : ℕ) → ((i : ℕ) → n ≤ i → f i ≡ 𝟘) → d + n ≤ j → shifted R d f j ≡ 𝟘
  shifted_late d n f j h l = shifted_at d f j (omega arith) ∙ h (j - d) (omega arith)

  -- equal below j, where the shift is not zero
  pub shifted_before : (d : ℕ) (f g : ℕ → A) (j : ℕ) → 0 < d → ((i : ℕ) → i < j → f i ≡ g i) → shifted R d f j ≡ shifted R d g j
  unfolding shifted
  shifted_before zero f g j p h = absurd (omega arith)
  shifted_before (suc d) f g zero p h = refl
  shifted_before (suc d) f g (suc j) p h = shifted_cong d f g j (λ i l. h i (omega arith))
