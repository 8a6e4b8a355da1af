-- Finite sums and products in a commutative ring, over the numbers below n.
use Rattle.std.specs.Prelude.{ℕ, zero, suc}
use Rattle.algebra.specs.Ring.{Ring}

module _ {A : Type 0} (R : Ring A) where
  -- f 0 + f 1 + .. + f (n − 1)
  unfoldable pub sum : ℕ → (ℕ → A) → A
  sum zero f = R.zero
  sum (suc n) f = R.add (sum n f) (f n)

  -- f 0 · f 1 · .. · f (n − 1)
  unfoldable pub product : ℕ → (ℕ → A) → A
  product zero f = R.one
  product (suc n) f = R.mul (product n f) (f n)
