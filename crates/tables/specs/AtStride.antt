-- A table laid at stride s: f t at s · t, zero between. Document 01: how a short column goes down.
use Rattle.std.specs.Prelude.{ℕ, zero, suc, ◌/◌, ◌%◌}
use Rattle.algebra.specs.Ring.{Ring}

module _ {A : Type 0} (R : Ring A) where
  -- the element where the number is zero, else zero
  unfoldable pub on_zero : ℕ → A → A
  on_zero zero a = a
  on_zero (suc n) a = R.zero

  unfoldable pub at_stride : ℕ → (ℕ → A) → ℕ → A
  at_stride s f i = on_zero (i % s) (f (i / s))
