-- A table placed in a longer one: f t at b + t for t < n, zero before b and from b + n on.
use Rattle.std.specs.Prelude.{ℕ, zero, suc}
use Rattle.algebra.specs.Ring.{Ring}

module _ {A : Type 0} (R : Ring A) where
  -- f below n, zero from n on
  unfoldable pub below : ℕ → (ℕ → A) → ℕ → A
  below zero f i = R.zero
  below (suc n) f zero = f 0
  below (suc n) f (suc i) = below n (λ k. f (suc k)) i

  unfoldable pub window : ℕ → ℕ → (ℕ → A) → ℕ → A
  window zero n f i = below n f i
  window (suc b) n f zero = R.zero
  window (suc b) n f (suc i) = window b n f i
