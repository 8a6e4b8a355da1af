-- The kernel ind · eq_uni of order M = 2^o at y, whose coefficient k of N = 2^l is (1/N) · y^((M − k mod M) mod M), and its product with a polynomial a of N
-- coefficients: a is first added up at every M-th place, then multiplied by 1 + Σ_{0<i<M} y^(M−i) · Z^i.
use Rattle.std.specs.Prelude.{ℕ, suc, ◌*◌, ◌-◌, ◌%◌, ◌^◌}
use Rattle.algebra.specs.Ring.{Ring, pow}
use Rattle.algebra.specs.Sum.{sum}
use Rattle.tables.specs.Window.{below}
use Rattle.tables.specs.Shifted.{shifted}

module _ {A : Type 0} (R : Ring A) where
  unfoldable pub geometric : A → ℕ → ℕ → A → ℕ → A
  geometric half l o y k = R.mul (pow R half l) (pow R y ((2 ^ o - k % 2 ^ o) % 2 ^ o))

  -- entry j is Σ_{b<c} a_(j − b·M), a of M · c coefficients
  unfoldable pub spread : ℕ → ℕ → (ℕ → A) → ℕ → A
  spread M c a j = sum R c (λ b. shifted R (M * b) (below R (M * c) a) j)

  -- Σ_{0<i<M} y^(M−i) · e_(j−i)
  unfoldable pub tail : ℕ → A → (ℕ → A) → ℕ → A
  tail M y e j = sum R (M - 1) (λ i. R.mul (pow R y (M - suc i)) (shifted R (suc i) e j))
