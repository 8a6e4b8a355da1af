-- p is prime, 11 is no square modulo p and −1 is one: so words, and elements over them, are fields.
use mathlib.Core.Path.{◌≡◌, refl, sym, ◌∙◌, ap}
use mathlib.Core.Logic.{◌≢◌}
use Prim.Native.Nat.{◌^◌}
use native.Mathlib.Fin
use lib.Dec.{lit<}
use Rattle.algebra.specs.Ring.{IsField, Domain, pow}
use Rattle.algebra.specs.Prime.{Prime}
use Rattle.algebra.specs.Zmod.{class, zmul, zneg}
use Rattle.algebra.proofs.Fields.{field_domain, field_discrete}
use Rattle.algebra.proofs.Powers.{pow-pow, squared, squared_is}
use Rattle.algebra.proofs.Primes.{prime_by_trial, zmod_field}
use Rattle.algebra.proofs.Euler.{nonsquare_by_power, class_ne_zero}
use Rattle.algebra.proofs.QuadraticRing.{quadratic_field, root_nonsquare}
use Rattle.field.specs.Word.{p, p-pos, Word, Fp, word_of}
use Rattle.field.specs.Element.{Elem, F}

-- trial division up to the square root
pub p_prime : Prime p
p_prime = prime_by_trial p 44870 (lit< tt) (lit< tt) tt

pub word_field : IsField Fp
word_field = zmod_field p p-pos p_prime

-- 11^((p − 1) / 2) is −1: (p − 1) / 2 is 15 · 2^26
fifteenth : pow Fp (word_of 11) 15 ≡ word_of (11 ^ 15)
unfolding pow class zmul
fifteenth = Fin.val_path refl

squared_26 : squared Fp 26 (word_of (11 ^ 15)) ≡ Fp.neg Fp.one
unfolding class zmul zneg
squared_26 = Fin.val_path refl

eleven_power : pow Fp (word_of 11) 1006632960 ≡ Fp.neg Fp.one
eleven_power =
    sym (pow-pow Fp (word_of 11) 15 (2 ^ 26)) ∙ ap (λ x. pow Fp x (2 ^ 26)) fifteenth ∙ sym (squared_is Fp 26 (word_of (11 ^ 15))) ∙ squared_26

eleven_nonsquare : (x : Word) → Fp.mul x x ≢ word_of 11
eleven_nonsquare = nonsquare_by_power p p-pos p_prime (word_of 11) 1006632960 refl (lit< tt) (class_ne_zero p p-pos p_prime 11 (lit< tt) (lit< tt)) eleven_power

minus_one_square : Fp.mul (word_of 1728404513) (word_of 1728404513) ≡ Fp.neg Fp.one
unfolding class zmul zneg
minus_one_square = Fin.val_path refl

-- one is not zero, equality can be told, and every element that is not zero has an inverse
pub element_field : IsField F
element_field =
    quadratic_field _ _ (quadratic_field Fp (word_of 11) word_field eleven_nonsquare)
    (root_nonsquare Fp (word_of 11) word_field eleven_nonsquare (word_of 1728404513) minus_one_square)

pub element_domain : Domain F
element_domain = field_domain element_field

pub element_discrete : (x y : Elem) → Dec (x ≡ y)
element_discrete = field_discrete element_field
