-- Words: the numbers below p, which are the integers modulo p. Document 01: p = 2,013,265,921 = 15·2^27 + 1.
-- What the operations of their ring are, the equations at the end say by numbers; the ring's laws are proved of the integers modulo any m.
use Rattle.std.specs.Prelude.{◌≡◌, refl, ℕ, ◌+◌, ◌*◌, ◌-◌, ◌^◌, ◌/◌, ◌%◌, ◌<◌}
use Rattle.std.proofs.Math.Nat.{add-mod-mod}
use native.Mathlib.Fin
use Rattle.std.proofs.Common.{arith}
use Rattle.algebra.specs.Ring.{Ring, sub}
use Rattle.algebra.specs.Zmod.{Zmod, class, zadd, zmul, zneg}
use Rattle.algebra.proofs.ZmodRing.{Zring}

abbrev pub p : ℕ
p = 2013265921

pub p_is : p ≡ 15 * 2 ^ 27 + 1
p_is = refl

pub p-pos : 0 < p
p-pos = omega arith

abbrev pub Word : Type 0
Word = Zmod p

-- the ring of words: sums and products modulo p
abbrev pub Fp : Ring Word
Fp = Zring p p-pos

-- any number, read modulo p; and the number of a word, which is below p
abbrev pub word_of : ℕ → Word
word_of n = class p p-pos n

abbrev pub number : Word → ℕ
number x = x.0

-- (p + 1) / 2
abbrev pub half : Word
half = word_of 1006632961

-- a word is its number
pub number-below : (x : Word) → number x < p
number-below x = x.1

pub number_same : (x y : Word) → number x ≡ number y → x ≡ y
number_same x y e = Fin.val_path e

pub number_word_of : (n : ℕ) → number (word_of n) ≡ n % p
unfolding class
number_word_of n = refl

pub number_half : number half ≡ (p + 1) / 2
unfolding class
number_half = refl

-- the operations of the ring of words
pub number-zero : number Fp.zero ≡ 0
unfolding class
number-zero = refl

pub number_one : number Fp.one ≡ 1
unfolding class
number_one = refl

pub number-sum : (x y : Word) → number (Fp.add x y) ≡ (number x + number y) % p
unfolding class zadd
number-sum x y = refl

pub number-neg : (x : Word) → number (Fp.neg x) ≡ (p - number x) % p
unfolding class zneg
number-neg x = refl

pub number_difference : (x y : Word) → number (sub Fp x y) ≡ (number x + (p - number y)) % p
unfolding class zadd zneg
number_difference x y = add-mod-mod (number x) (p - number y) p

pub number-product : (x y : Word) → number (Fp.mul x y) ≡ (number x * number y) % p
unfolding class zmul
number-product x y = refl
