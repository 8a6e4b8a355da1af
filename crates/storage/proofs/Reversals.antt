-- Reversal of k bits: it stays below 2^k, splits with its argument, and undoes itself; bit j goes to bit k − 1 − j. By induction
-- on k. Assumes nothing.
use mathlib.Core.Path.{◌≡◌, refl, sym, ◌∙◌, ap, ap₂}
use Prim.Native.Nat.{ℕ, zero, suc, ◌+◌, ◌*◌, ◌/◌, ◌%◌, ◌^◌, ◌<◌, ◌≤◌}
use native.Mathlib.Nat
use native.Mathlib.Nat.{pow-succ', mod-lt}
use native.Mathlib.Numerals.{add-one}
use native.Mathlib.Omega.{arith}
use Rattle.algebra.proofs.Powers.{two_pow-add}
use Rattle.storage.specs.Reversed.{reversed}

bit_low : (b n : ℕ) → b < 2 → b * n ≤ n
bit_low zero n h = omega arith
bit_low (suc zero) n h = omega arith
bit_low (suc (suc b)) n h = absurd (omega arith)

pub reversed-below : (k i : ℕ) → reversed k i < 2 ^ k
unfolding reversed
reversed-below zero i = omega arith
reversed-below (suc k) i = omega (arith, reversed-below k (i / 2), bit_low (i % 2) (2 ^ k) (mod-lt i (omega arith)), pow-succ' 2 k)

pub reversed-zero : (k : ℕ) → reversed k 0 ≡ 0
unfolding reversed
reversed-zero zero = refl
reversed-zero (suc k) = omega (arith, reversed-zero k, Nat.zero-mul (2 ^ k))

-- an even number more: the lowest bit stays, the others move down
low : (n y : ℕ) → (2 * n + y) % 2 ≡ y % 2
low n y = omega arith

rest : (n y : ℕ) → (2 * n + y) / 2 ≡ n + y / 2
rest n y = omega arith

twice : (b k : ℕ) → b * 2 ^ suc k ≡ 2 * (b * 2 ^ k)
twice b k = ap (λ n. b * n) (pow-succ' 2 k) ∙ sym (Nat.mul_assoc b 2 (2 ^ k)) ∙ ap (λ n. n * 2 ^ k) (Nat.mul_comm b 2) ∙ Nat.mul_assoc 2 b (2 ^ k)

-- the highest bit becomes the lowest
pub reversed-high : (k b y : ℕ) → b < 2 → y < 2 ^ k → reversed (suc k) (b * 2 ^ k + y) ≡ 2 * reversed k y + b
unfolding reversed
reversed-high zero b y h s = omega arith
reversed-high (suc k) b y h s =
    ap (reversed (suc (suc k))) (ap (λ n. n + y) (twice b k))
    ∙ ap₂ (λ c n. c * 2 ^ suc k + reversed (suc k) n) (low (b * 2 ^ k) y) (rest (b * 2 ^ k) y)
    ∙ ap (λ n. y % 2 * 2 ^ suc k + n) (reversed-high k b (y / 2) h (omega (arith, pow-succ' 2 k)))
    ∙ (let e : y % 2 * 2 ^ suc k ≡ 2 * (y % 2 * 2 ^ k) = twice (y % 2) k in omega arith)

-- reversal undoes itself
pub reversed_twice : (k i : ℕ) → i < 2 ^ k → reversed k (reversed k i) ≡ i
unfolding reversed
reversed_twice zero i h = omega arith
reversed_twice (suc k) i h =
    reversed-high k (i % 2) (reversed k (i / 2)) (mod-lt i (omega arith)) (reversed-below k (i / 2))
    ∙ ap (λ n. 2 * n + i % 2) (reversed_twice k (i / 2) (omega (arith, pow-succ' 2 k)))
    ∙ omega arith

-- the low m bits, reversed, stand above the others
pub reversed_split : (m j g b : ℕ) → b < 2 ^ m → reversed (m + j) (2 ^ m * g + b) ≡ reversed m b * 2 ^ j + reversed j g
unfolding reversed
reversed_split zero j g b h = ap (λ n. reversed n (1 * g + b)) (Nat.zero-add j) ∙ ap (reversed j) {x = 1 * g + b} {y = g} (omega arith) ∙ sym (ap (λ n. n + reversed j g) (Nat.zero-mul (2 ^ j)) ∙ Nat.zero-add (reversed j g))
reversed_split (suc m) j g b h =
    ap (λ n. reversed n (2 ^ suc m * g + b)) {x = suc m + j} {y = suc (m + j)} (omega arith)
    ∙ ap (λ n. reversed (suc (m + j)) (n + b)) (ap (λ n. n * g) (pow-succ' 2 m) ∙ Nat.mul_assoc 2 (2 ^ m) g)
    ∙ ap₂ (λ c n. c * 2 ^ (m + j) + reversed (m + j) n) (low (2 ^ m * g) b) (rest (2 ^ m * g) b)
    ∙ ap (λ n. b % 2 * 2 ^ (m + j) + n) (reversed_split m j g (b / 2) (omega (arith, pow-succ' 2 m)))
    ∙ ap (λ n. b % 2 * n + (reversed m (b / 2) * 2 ^ j + reversed j g)) (two_pow-add m j)
    ∙ (let e : b % 2 * (2 ^ m * 2 ^ j) ≡ b % 2 * 2 ^ m * 2 ^ j = sym (Nat.mul_assoc (b % 2) (2 ^ m) (2 ^ j)) in
    let d : (b % 2 * 2 ^ m + reversed m (b / 2)) * 2 ^ j ≡ b % 2 * 2 ^ m * 2 ^ j + reversed m (b / 2) * 2 ^ j = Nat.add-mul (b % 2 * 2 ^ m) (reversed m (b / 2)) (2 ^ j) in
    omega arith)

-- one bit more, from below: the lowest bit left becomes the lowest
pub reversed_next : (k i : ℕ) → reversed (suc k) i ≡ 2 * reversed k i + i / 2 ^ k % 2
unfolding reversed
reversed_next zero i = omega (arith, Nat.div-one i)
reversed_next (suc k) i =
    let e : i / 2 / 2 ^ k ≡ i / 2 ^ suc k = Nat.div-div-eq-div-mul i 2 (2 ^ k) ∙ ap (λ n. i / n) (sym (pow-succ' 2 k)) in
    let d : i / 2 / 2 ^ k % 2 ≡ i / 2 ^ suc k % 2 = ap (λ n. n % 2) e in
    let t : i % 2 * 2 ^ suc k ≡ 2 * (i % 2 * 2 ^ k) = twice (i % 2) k in
    omega (arith, reversed_next k (i / 2))

-- bit by bit: y is the reversal of the i bits passed, `left` what is above them
abbrev pub Passing : ℕ → ℕ → ℕ → ℕ → Type 0
Passing x i y left = (y ≡ reversed i x) × (left ≡ x / 2 ^ i)

pub passing_start : (x : ℕ) → Passing x 0 0 x
unfolding reversed
passing_start x = (refl, sym (Nat.div-one x))

pub passing_fits : (x y i bits : ℕ) → y ≡ reversed i x → i < bits → bits < 64 → 2 * y + 1 < 2 ^ 64
passing_fits x y i bits e h s = omega (arith, reversed-below i x, Nat.pow-le-pow_right {n = 2} (omega arith) {i = i} {j = 62} (omega arith))

pub passing_turn : (x y left i : ℕ) → Passing x i y left → Passing x (i + 1) (2 * y + left % 2) (left / 2)
passing_turn x y left i (e, d) =
    (ap₂ (λ a b. 2 * a + b % 2) e d ∙ sym (reversed_next i x) ∙ ap (λ k. reversed k x) (sym (add-one i)), ap (λ a. a / 2) d ∙ Nat.div-div-eq-div-mul x (2 ^ i) 2 ∙ ap (λ n. x / n) (Nat.mul_comm (2 ^ i) 2 ∙ sym (pow-succ' 2 i) ∙ ap (λ k. 2 ^ k) (sym (add-one i))))

pub passing_end : (x y i bits : ℕ) → i ≤ bits → bits ≤ i → y ≡ reversed i x → y ≡ reversed bits x
passing_end x y i bits a b e = e ∙ ap (λ k. reversed k x) (Nat.le_antisymm a b)
