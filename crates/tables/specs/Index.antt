-- The cyclic index of the rotation: of n rows, the one before row i, the last before row 0. Document 01: t − 1; `rot_prev`.
use Rattle.std.specs.Prelude.{ℕ, zero, suc, ◌-◌}

unfoldable pub before : ℕ → ℕ → ℕ
before n zero = n - 1
before n (suc i) = i
