-- Shifts of the code that lose no bit: a number times a power of two.
use Rattle.std.proofs.Common.{◌≡◌, ℕ, ◌*◌, ◌%◌, ◌^◌, ◌≤◌, arith, shl_exact}

module _ (a x : ℕ) (small : a ≤ 2 ^ 30) (few : x ≤ 24) where
  pub shifted : a * 2 ^ x % 18446744073709551616 ≡ a * 2 ^ x
  shifted = shl_exact {a = a} 31 x 64 (omega arith) (omega arith)
