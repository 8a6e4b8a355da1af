-- The row before, from the code's checked subtraction.
use mathlib.Core.Path.{◌≡◌, ap}
use Prim.Native.Nat.{ℕ, zero, suc, ◌*◌, ◌-◌, ◌%◌, ◌^◌, ◌≤◌, min}
use native.Mathlib.Omega.{arith}
use Rattle.std.specs.Prelude.{Option, Some, None}
use Rattle.std.specs.Option.{SomeIff, unwrap_or}
use Rattle.algebra.proofs.Powers.{shift_exact}
use Rattle.tables.specs.Index.{before}

pub row_before : (n x : ℕ) {m : ℕ} (o : Option ℕ) → m ≡ min n 31 → SomeIff o (1 ≤ x) (x - 1) → unwrap_or o (1 * 2 ^ m % 4294967296 - 1) ≡ before (2 ^ min n 31) x
unfolding before
row_before n zero {m} None e h = rw (shift_exact m 32 (omega (arith, e))) (ap (λ k. 2 ^ k - 1) e)
row_before n zero (Some y) e h = absurd (omega (arith, h.0))
row_before n (suc x) None e h = absurd (h (omega arith))
row_before n (suc x) (Some y) e h = omega (arith, h.1)
