-- The Lagrange basis of the skip subgroup, by coefficients: half^l · Σ_{k<N} z^k · w^((N−i)·k), with N = 2^l.
-- The polynomial of degree below N that is 1 at w^i and 0 at the other powers of w.
use Rattle.std.specs.Prelude.{ℕ, ◌*◌, ◌-◌, ◌^◌}
use Rattle.algebra.specs.Ring.{Ring, pow}
use Rattle.algebra.specs.Sum.{sum}

module _ {A : Type 0} (R : Ring A) (half : A) (l : ℕ) (w : A) where
  unfoldable pub lagrange : ℕ → A → A
  lagrange i z = R.mul (pow R half l) (sum R (2 ^ l) (λ k. R.mul (pow R z k) (pow R w ((2 ^ l - i) * k))))
