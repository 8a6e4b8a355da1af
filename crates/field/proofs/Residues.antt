-- Sums, negatives and products of numbers modulo p are those of their words.
use mathlib.Core.Path.{◌≡◌, refl, sym, ◌∙◌, ap}
use Prim.Native.Nat.{ℕ, ◌+◌, ◌*◌, ◌-◌, ◌%◌, ◌<◌, ◌≤◌, ◌^◌}
use native.Mathlib.Nat.{mul-le-mul}
use native.Mathlib.Omega.{arith}
use Rattle.algebra.specs.Zmod.{class, zneg}
use Rattle.algebra.proofs.ZmodRing.{class_val, class-add, class-mul}
use Rattle.field.specs.Word.{p, p-pos, Word, Fp, word_of, number}
pub use Rattle.field.specs.Word.{number_word_of}

-- two numbers of 32 bits: their product fits 64
pub wide : {a b : ℕ} → a < 2 ^ 32 → b < 2 ^ 32 → a * b ≤ 18446744065119617025
wide {a} {b} h k = mul-le-mul {n₁ = a} {m₁ = b} {n₂ = 4294967295} {m₂ = 4294967295} (omega arith) (omega arith)

-- two words below p: four such products fit 64 bits
pub narrow : {a b : ℕ} → a < p → b < p → a * b ≤ 4053239664633446400
narrow {a} {b} h k = mul-le-mul {n₁ = a} {m₁ = b} {n₂ = 2013265920} {m₂ = 2013265920} (omega arith) (omega arith)

pub word_of_number : (x : Word) → word_of (number x) ≡ x
word_of_number x = class_val p p-pos x

pub sum-residue : (a b : ℕ) → (a + b) % p ≡ number (Fp.add (word_of a) (word_of b))
sum-residue a b = sym (number_word_of (a + b)) ∙ ap (λ x. number x) (sym (class-add p p-pos a b))

pub product-residue : (a b : ℕ) → a * b % p ≡ number (Fp.mul (word_of a) (word_of b))
product-residue a b = sym (number_word_of (a * b)) ∙ ap (λ x. number x) (sym (class-mul p p-pos a b))

pub neg-residue : (a : ℕ) → (p - a % p) % p ≡ number (Fp.neg (word_of a))
unfolding class zneg
neg-residue a = refl

-- the number of a product is below p
pub below : (a b : ℕ) {r : ℕ} → r ≡ number (Fp.mul (word_of a) (word_of b)) → r < p
below a b e = let h : number (Fp.mul (word_of a) (word_of b)) < p = (Fp.mul (word_of a) (word_of b)).1 in omega arith
