-- How many of a table's 2^m entries a round's fold leaves: half as many as before, and the one that is left stays.
use mathlib.Core.Path.{◌≡◌, ◌∙◌, ap}
use mathlib.Core.Bool.{cond}
use Prim.Native.Nat.{ℕ, suc, ◌+◌, ◌-◌, ◌*◌, ◌/◌, ◌^◌, ◌<◌, ◌≤◌, max}
use native.Mathlib.Nat
use native.Mathlib.Omega.{arith}
use native.Mathlib.Decide.{dec_lt}
use borrow.Author.Tests.{ne_eqb}
use Rattle.algebra.proofs.Powers.{two_pow-pos, two_pow-add}
use Rattle.prover.specs.CallNumbers.{live}

pub power_over : (m j : ℕ) → j ≤ m → 2 ^ m / 2 ^ j ≡ 2 ^ (m - j)
power_over m j h =
    ap (λ e. e / 2 ^ j) (ap (λ i. 2 ^ i) {x = m} {y = m - j + j} (omega arith) ∙ two_pow-add (m - j) j) ∙ Nat.mul-div_cancel (2 ^ (m - j)) (two_pow-pos j)

pub power_under : (m j : ℕ) → m < j → 2 ^ m / 2 ^ j ≡ 0
power_under m j h =
    Nat.div-eq_of_lt (omega (arith, Nat.pow-le-pow_right {n = 2} (omega arith) {i = suc m} {j = j} h, Nat.pow-succ' 2 m, two_pow-pos m))

pub live_power : (m j : ℕ) → live (2 ^ m) j ≡ 2 ^ (m - j)
unfolding live
live_power m j = ap (λ b. cond b 0 (max 1 (2 ^ m / 2 ^ j))) (ne_eqb (2 ^ m) 0 (λ e. omega (arith, two_pow-pos m))) ∙ by (dec_lt m j)
  where
    by : Dec (m < j) → max 1 (2 ^ m / 2 ^ j) ≡ 2 ^ (m - j)
    by (yes d) = ap (max 1) (power_under m j d) ∙ ap (λ i. 2 ^ i) {x = 0} {y = m - j} (omega arith)
    by (no d) = ap (max 1) (power_over m j (omega arith)) ∙ (let e : max 1 (2 ^ (m - j)) ≡ 2 ^ (m - j) = omega (arith, two_pow-pos (m - j)) in e)

-- behind what the next fold leaves: behind the values it writes; and behind the zeros it writes nothing was left before
module _ (m j x : ℕ) (behind : live (2 ^ m) (suc j) ≤ x) where
  pub past_values : 2 ^ m / 2 ^ suc j ≤ x
  past_values = by (dec_lt m (suc j))
    where
      by : Dec (m < suc j) → 2 ^ m / 2 ^ suc j ≤ x
      by (yes d) = omega (arith, power_under m (suc j) d)
      by (no d) = omega (arith, power_over m (suc j) (omega arith), live_power m (suc j))

  pub past_zeros : 2 * (2 ^ m / 2 ^ suc j) ≤ x → live (2 ^ m) j ≤ x
  past_zeros h = by (dec_lt m (suc j))
    where
      by : Dec (m < suc j) → live (2 ^ m) j ≤ x
      by (yes d) = omega (arith, live_power m j, live_power m (suc j), ap (λ i. 2 ^ i) {x = m - j} {y = m - suc j} (omega arith))
      by (no d) =
          omega (
            arith,
            power_over m (suc j) (omega arith),
            live_power m j,
            Nat.pow-succ' 2 (m - suc j),
            ap (λ i. 2 ^ i) {x = m - j} {y = suc (m - suc j)} (omega arith),
          )
