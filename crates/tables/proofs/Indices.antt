-- Numbers: the cyclic index before another, rows as i + N · j, and halves.
use mathlib.Core.Path.{◌≡◌, refl, ◌∙◌, ap}
use mathlib.Core.Logic.{◌⊎◌, inl, inr}
use Prim.Native.Nat.{ℕ, zero, suc, ◌+◌, ◌*◌, ◌-◌, ◌/◌, ◌%◌, ◌<◌}
use native.Mathlib.Nat
use native.Mathlib.Omega.{arith}
use Rattle.tables.specs.Index.{before}

-- m is 2q or 2q + 1
pub halves : (m : ℕ) → (q : ℕ) × ((m ≡ 2 * q) ⊎ (m ≡ suc (2 * q)))
halves zero = (0, inl refl)
halves (suc m) = next (halves m)
  where
    next : (q : ℕ) × ((m ≡ 2 * q) ⊎ (m ≡ suc (2 * q))) → (q : ℕ) × ((suc m ≡ 2 * q) ⊎ (suc m ≡ suc (2 * q)))
    next (q, inl e) = (q, inr (ap suc e))
    next (q, inr e) = (suc q, inl (omega arith))

pub grid_mod : (n i j : ℕ) → i < n → (i + n * j) % n ≡ i
grid_mod n i j h = Nat.add-mul-mod_self_left i n j ∙ Nat.mod-eq_of_lt h

pub grid_div : (n i j : ℕ) → i < n → (i + n * j) / n ≡ j
grid_div n i j h = Nat.add-mul-div_left i j (omega arith) ∙ ap (λ q. q + j) (Nat.div-eq_of_lt h) ∙ Nat.zero-add j

pub before_small : (n i : ℕ) → i < n → before n i < n
unfolding before
before_small n zero h = omega arith
before_small n (suc i) h = omega arith

-- among twice as many, by the lowest bit
pub before_even : (n i : ℕ) → 0 < n → before (2 * n) (2 * i) ≡ 2 * before n i + 1
unfolding before
before_even n zero h = omega arith
before_even n (suc i) h = ap (before (2 * n)) {x = 2 * suc i} {y = suc (2 * i + 1)} (omega arith)

pub before_odd : (n i : ℕ) → before (2 * n) (2 * i + 1) ≡ 2 * i
unfolding before
before_odd n i = ap (before (2 * n)) {x = 2 * i + 1} {y = suc (2 * i)} (omega arith)

-- among m blocks of n: in the same block, or at the end of the block before
pub before_inside : (n m i j : ℕ) → before (n * m) (suc i + n * j) ≡ i + n * j
unfolding before
before_inside n m i j = ap (before (n * m)) (Nat.suc-add i (n * j))

pub before_first : (n m j : ℕ) → 0 < n → 0 < m → before (n * m) (0 + n * j) ≡ n - 1 + n * before m j
unfolding before
before_first n m zero p q =
    ap (before (n * m)) {x = 0 + n * 0} {y = 0} (omega arith)
    ∙ omega (arith, Nat.mul-le-mul_left n q, Nat.mul-sub n m 1)
before_first n m (suc j) p q = ap (before (n * m)) {x = 0 + n * suc j} {y = suc (n - 1 + n * j)} (omega (arith, Nat.mul-suc n j))
