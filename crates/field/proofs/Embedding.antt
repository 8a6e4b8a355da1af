-- Words in the ring of elements: sums, products and powers carry over, so one half and the roots do.
use mathlib.Core.Path.{◌≡◌, refl, sym, ◌∙◌, ap}
use mathlib.Core.Logic.{◌≢◌}
use Prim.Native.Nat.{ℕ, zero, suc, ◌+◌, ◌^◌, ◌<◌, ◌≤◌}
use native.Mathlib.Fin
use Rattle.algebra.specs.Ring.{num, pow}
use Rattle.algebra.specs.Zmod.{class, zadd, zmul}
use Rattle.algebra.specs.Quadratic.{qadd, qneg}
use Rattle.algebra.proofs.RingLaws as Laws
use Rattle.algebra.proofs.QuadraticRing.{pair}
use Rattle.field.specs.Word.{Word, Fp, half}
use Rattle.field.specs.Element.{Elem, F, elem, ◌⊕◌, ◌⊗◌, neg, from_word, half_elem}
use Rattle.field.specs.Powers.{generator, root}
use Rattle.field.proofs.Elements.{scaled}
use Rattle.field.proofs.Generators.{generator_first, generator_half, generator-raised, generator_distinct}

pub elem_eq : {a b c d a' b' c' d' : Word} → a ≡ a' → b ≡ b' → c ≡ c' → d ≡ d' → elem a b c d ≡ elem a' b' c' d'
elem_eq e f g h = pair (pair e g) (pair f h)

pub from_word-add : (a b : Word) → from_word a ⊕ from_word b ≡ from_word (Fp.add a b)
unfolding qadd
from_word-add a b = elem_eq refl (Fp.add_zero Fp.zero) (Fp.add_zero Fp.zero) (Fp.add_zero Fp.zero)

pub from_word-neg : (a : Word) → neg (from_word a) ≡ from_word (Fp.neg a)
unfolding qneg
from_word-neg a = elem_eq refl (Laws.neg-zero Fp) (Laws.neg-zero Fp) (Laws.neg-zero Fp)

pub from_word-mul : (a b : Word) → from_word a ⊗ from_word b ≡ from_word (Fp.mul a b)
from_word-mul a b =
    scaled a b Fp.zero Fp.zero Fp.zero ∙ elem_eq refl (Laws.mul-zero Fp a) (Laws.mul-zero Fp a) (Laws.mul-zero Fp a)

pub from_word-pow : (a : Word) (n : ℕ) → pow F (from_word a) n ≡ from_word (pow Fp a n)
unfolding pow
from_word-pow a zero = refl
from_word-pow a (suc n) = ap (λ x. from_word a ⊗ x) (from_word-pow a n) ∙ from_word-mul a (pow Fp a n)

pub from_word-num : (n : ℕ) → num F n ≡ from_word (num Fp n)
unfolding num
from_word-num zero = refl
from_word-num (suc n) = ap (λ x. F.one ⊕ x) (from_word-num n) ∙ from_word-add Fp.one (num Fp n)

half_word : Fp.mul half (num Fp 2) ≡ Fp.one
unfolding num class zadd zmul
half_word = Fin.val_path refl

pub half_two : half_elem ⊗ num F 2 ≡ F.one
half_two = ap (λ x. half_elem ⊗ x) (from_word-num 2) ∙ from_word-mul half (num Fp 2) ∙ ap (λ x. from_word x) half_word

pub root_first : root 0 ≡ F.one
root_first = ap (λ x. from_word x) generator_first

-- the half-way power of a root is −1
pub root_half : (k : ℕ) → k < 27 → pow F (root (suc k)) (2 ^ k) ≡ neg F.one
root_half k h =
    from_word-pow (generator (suc k)) (2 ^ k) ∙ ap (λ x. from_word x) (generator_half k h) ∙ sym (from_word-neg Fp.one)

-- a raised root is that of the smaller order
pub root-raised : (k d : ℕ) → k + d ≤ 27 → pow F (root (k + d)) (2 ^ d) ≡ root k
root-raised k d h = from_word-pow (generator (k + d)) (2 ^ d) ∙ ap (λ x. from_word x) (generator-raised k d h)

pub root_distinct : (k : ℕ) → k ≤ 27 → (i j : ℕ) → i < j → j < 2 ^ k → pow F (root k) i ≢ pow F (root k) j
root_distinct k h i j lt hi e =
    generator_distinct k h i j lt hi
    (ap (λ (x : Elem). x.0.0) (sym (from_word-pow (generator k) i) ∙ e ∙ from_word-pow (generator k) j))
