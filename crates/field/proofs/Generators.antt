-- The generators of the skip subgroups: their half-way power is −1, a power of one is another, and their powers are distinct.
use mathlib.Core.Path.{◌≡◌, refl, sym, ◌∙◌, ap}
use mathlib.Core.Logic.{◌≢◌}
use Prim.Native.Nat.{ℕ, zero, suc, ◌+◌, ◌*◌, ◌-◌, ◌%◌, ◌/◌, ◌^◌, ◌<◌, ◌≤◌}
use native.Mathlib.Nat
use native.Mathlib.Omega.{arith}
use native.Mathlib.Fin
use Rattle.algebra.specs.Ring.{pow}
use Rattle.algebra.specs.Zmod.{class, zmul, zneg}
use Rattle.algebra.proofs.Powers.{pow-add, pow-pow, pow_is_one, two_pow-add, squared, squared_is}
use Rattle.algebra.proofs.Orders.{half_way_turn, powers_distinct}
use Rattle.field.specs.Word.{Word, Fp, word_of}
use Rattle.field.specs.Powers.{generator}

-- 440,564,289 is 31^15; squared 26 times it is −1, and squared 17 times the generator of order 1,024
pub thirty_one : word_of (31 ^ 15) ≡ word_of 440564289
unfolding class
thirty_one = Fin.val_path refl

squared_26 : squared Fp 26 (word_of 440564289) ≡ Fp.neg Fp.one
unfolding class zmul zneg
squared_26 = Fin.val_path refl

squared_17 : squared Fp 17 (word_of 440564289) ≡ word_of 341742893
unfolding class zmul
squared_17 = Fin.val_path refl

pub generator_10 : generator 10 ≡ word_of 341742893
unfolding generator
generator_10 = sym (squared_is Fp 17 (word_of 440564289)) ∙ squared_17

-- every smaller order's generator is a power of a larger one's
pub generator-raised : (k d : ℕ) → k + d ≤ 27 → pow Fp (generator (k + d)) (2 ^ d) ≡ generator k
unfolding generator
generator-raised k d h =
    pow-pow Fp (word_of 440564289) (2 ^ (27 - (k + d))) (2 ^ d)
    ∙ ap (pow Fp (word_of 440564289)) (sym (two_pow-add (27 - (k + d)) d) ∙ ap (λ n. 2 ^ n) {x = 27 - (k + d) + d} {y = 27 - k} (omega arith))

-- the half-way power is −1
pub generator_half : (k : ℕ) → k < 27 → pow Fp (generator (suc k)) (2 ^ k) ≡ Fp.neg Fp.one
unfolding generator
generator_half k h =
    pow-pow Fp (word_of 440564289) (2 ^ (27 - suc k)) (2 ^ k)
    ∙ ap (pow Fp (word_of 440564289)) (sym (two_pow-add (27 - suc k) k) ∙ ap (λ n. 2 ^ n) {x = 27 - suc k + k} {y = 26} (omega arith))
    ∙ sym (squared_is Fp 26 (word_of 440564289)) ∙ squared_26

pub generator_first : generator 0 ≡ Fp.one
unfolding generator
generator_first =
    ap (pow Fp (word_of 440564289)) {x = 2 ^ (27 - 0)} {y = 2 ^ suc 26} refl
    ∙ half_way_turn Fp 26 (word_of 440564289) (sym (squared_is Fp 26 (word_of 440564289)) ∙ squared_26)

pub generator_turn : (k : ℕ) → k ≤ 27 → pow Fp (generator k) (2 ^ k) ≡ Fp.one
unfolding pow
generator_turn zero h = Fp.mul_one (generator 0) ∙ generator_first
generator_turn (suc k) h = half_way_turn Fp k (generator (suc k)) (generator_half k h)

one_ne_minus_one : Fp.one ≢ Fp.neg Fp.one
unfolding class zneg
one_ne_minus_one e = let f : ◌≡◌ {A = ℕ} 1 2013265920 = ap (λ (x : Word). x.0) e in omega arith

-- the powers below the order are distinct
pub generator_distinct : (k : ℕ) → k ≤ 27 → (i j : ℕ) → i < j → j < 2 ^ k → pow Fp (generator k) i ≢ pow Fp (generator k) j
generator_distinct zero h i j lt hi = absurd (omega arith)
generator_distinct (suc k) h i j lt hi = powers_distinct Fp one_ne_minus_one k (generator (suc k)) (generator_half k h) i j lt hi

-- any exponent, by its remainder and the table of order 2^10
pub power_remainder : (k : ℕ) → k ≤ 27 → (i : ℕ) → pow Fp (generator k) i ≡ pow Fp (generator k) (i % 2 ^ k)
power_remainder k h i =
    ap (pow Fp (generator k)) (sym (Nat.mod-add-div i (2 ^ k)))
    ∙ pow-add Fp (generator k) (i % 2 ^ k) (2 ^ k * (i / 2 ^ k))
    ∙ ap (λ x. Fp.mul (pow Fp (generator k) (i % 2 ^ k)) x) (pow_is_one Fp (generator k) (2 ^ k) (i / 2 ^ k) (generator_turn k h))
    ∙ Fp.mul_one _

pub power_in_table : (l i : ℕ) → l ≤ 10 → pow Fp (generator l) i ≡ pow Fp (generator 10) (i % 2 ^ l * 2 ^ (10 - l))
power_in_table l i h =
    power_remainder l (omega arith) i
    ∙ ap (λ x. pow Fp x (i % 2 ^ l))
    (sym (generator-raised l (10 - l) (omega arith)) ∙ ap (λ n. pow Fp (generator n) (2 ^ (10 - l))) {x = l + (10 - l)} {y = 10} (omega arith))
    ∙ pow-pow Fp (generator 10) (2 ^ (10 - l)) (i % 2 ^ l) ∙ ap (pow Fp (generator 10)) (Nat.mul_comm (2 ^ (10 - l)) (i % 2 ^ l))
