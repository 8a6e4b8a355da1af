-- A number with one bit set is the power of two that its trailing zeros say. Assumes nothing.
use mathlib.Core.Path.{◌≡◌, refl}
use Prim.Native.Nat.{ℕ, zero, suc, ◌/◌, ◌%◌, ◌^◌, ◌<◌}
use native.Mathlib.Nat.{pow-succ'}
use native.Mathlib.Omega.{arith}
use lib.Count.{ones, ones_step, ones-le, under, count_trailing_zeros}
use Rattle.std.proofs.lemmas.Nat.{zero_from_ones}

pub one_bit : (k n : ℕ) → n < 2 ^ k → ones n ≡ 1 → (n ≡ 2 ^ count_trailing_zeros k n) × (count_trailing_zeros k n < k)
unfolding count_trailing_zeros
one_bit zero n h e = absurd (omega (arith, ones-le 0 n h))
one_bit (suc k) n h e = by (one_bit k (n / 2)) (n % 2) refl
  where
    by : (n / 2 < 2 ^ k → ones (n / 2) ≡ 1 → (n / 2 ≡ 2 ^ count_trailing_zeros k (n / 2)) × (count_trailing_zeros k (n / 2) < k))
        → (d : ℕ) → n % 2 ≡ d → (n ≡ 2 ^ under d (count_trailing_zeros k (n / 2))) × (under d (count_trailing_zeros k (n / 2)) < suc k)
    by half zero z =
        let r = half (omega (arith, pow-succ' 2 k)) (omega (arith, ones_step n)) in
        (omega (arith, r.0, pow-succ' 2 (count_trailing_zeros k (n / 2))), omega (arith, r.1))
    by half (suc d) z = (omega (arith, zero_from_ones (n / 2) (omega (arith, ones_step n))), omega arith)
