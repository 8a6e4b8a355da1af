-- Elements: a₀ + a₁·X + a₂·X² + a₃·X³ with words for coefficients, modulo X⁴ − 11.
-- They are built as two square roots, Y of 11 and X of Y; the equations at the end say by coefficients what the operations of their ring are.
use Rattle.std.specs.Prelude.{◌≡◌, List, [], ◌∷◌, ℕ, get_or}
use Rattle.std.proofs.Math.Path.{refl}
use Rattle.algebra.specs.Ring.{Ring, sub}
use Rattle.algebra.specs.Quadratic.{qadd, qneg}
use Rattle.algebra.proofs.QuadraticRing.{quadratic, quartic_product}
use Rattle.field.specs.Word.{Word, Fp, word_of, number, half}

abbrev pub Elem : Type 0
Elem = (Word × Word) × (Word × Word)

-- the ring of elements
abbrev pub F : Ring Elem
F = quadratic (quadratic Fp (word_of 11)) (Fp.zero, Fp.one)

-- a₀ + a₁·X + a₂·X² + a₃·X³
abbrev pub elem : Word → Word → Word → Word → Elem
elem a₀ a₁ a₂ a₃ = ((a₀, a₂), (a₁, a₃))

infixl 60 ◌⊕◌ ◌⊖◌
infixl 70 ◌⊗◌
abbrev pub ◌⊕◌ : Elem → Elem → Elem
x ⊕ y = F.add x y

abbrev pub ◌⊖◌ : Elem → Elem → Elem
x ⊖ y = sub F x y

abbrev pub ◌⊗◌ : Elem → Elem → Elem
x ⊗ y = F.mul x y

abbrev pub neg : Elem → Elem
neg x = F.neg x

-- a word as an element, and one half
abbrev pub from_word : Word → Elem
from_word a = elem a Fp.zero Fp.zero Fp.zero

abbrev pub half_elem : Elem
half_elem = from_word half

-- four words read as an element, constant coefficient first: each modulo p, and 0 where there is none
unfoldable pub elem_of : List ℕ → Elem
elem_of a = elem (word_of (get_or a 0 0)) (word_of (get_or a 1 0)) (word_of (get_or a 2 0)) (word_of (get_or a 3 0))

-- the four words of an element, each below p
unfoldable pub words_of : Elem → List ℕ
words_of ((a₀, a₂), (a₁, a₃)) = number a₀ ∷ number a₁ ∷ number a₂ ∷ number a₃ ∷ []

-- the operations of the ring of elements
pub zero_is : F.zero ≡ elem Fp.zero Fp.zero Fp.zero Fp.zero
zero_is = refl

pub one_is : F.one ≡ elem Fp.one Fp.zero Fp.zero Fp.zero
one_is = refl

module _ (a₀ a₁ a₂ a₃ b₀ b₁ b₂ b₃ : Word) where
  infixl 60 ◌+ₚ◌ ◌-ₚ◌
  infixl 70 ◌·ₚ◌
  open Fp use {add as ◌+ₚ◌, mul as ◌·ₚ◌}

  abbrev ◌-ₚ◌ : Word → Word → Word
  a -ₚ b = sub Fp a b

  pub sum_is : elem a₀ a₁ a₂ a₃ ⊕ elem b₀ b₁ b₂ b₃ ≡ elem (a₀ +ₚ b₀) (a₁ +ₚ b₁) (a₂ +ₚ b₂) (a₃ +ₚ b₃)
  unfolding qadd
  sum_is = refl

  pub difference_is : elem a₀ a₁ a₂ a₃ ⊖ elem b₀ b₁ b₂ b₃ ≡ elem (a₀ -ₚ b₀) (a₁ -ₚ b₁) (a₂ -ₚ b₂) (a₃ -ₚ b₃)
  unfolding qadd qneg
  difference_is = refl

  -- X⁴ is 11
  pub product_is : elem a₀ a₁ a₂ a₃ ⊗ elem b₀ b₁ b₂ b₃
      ≡ elem
      (a₀ ·ₚ b₀ +ₚ word_of 11 ·ₚ (a₁ ·ₚ b₃ +ₚ a₂ ·ₚ b₂ +ₚ a₃ ·ₚ b₁))
      (a₀ ·ₚ b₁ +ₚ a₁ ·ₚ b₀ +ₚ word_of 11 ·ₚ (a₂ ·ₚ b₃ +ₚ a₃ ·ₚ b₂))
      (a₀ ·ₚ b₂ +ₚ a₁ ·ₚ b₁ +ₚ a₂ ·ₚ b₀ +ₚ word_of 11 ·ₚ (a₃ ·ₚ b₃))
      (a₀ ·ₚ b₃ +ₚ a₁ ·ₚ b₂ +ₚ a₂ ·ₚ b₁ +ₚ a₃ ·ₚ b₀)
  product_is = quartic_product Fp (word_of 11) a₀ a₁ a₂ a₃ b₀ b₁ b₂ b₃

pub neg_is : (a₀ a₁ a₂ a₃ : Word) → neg (elem a₀ a₁ a₂ a₃) ≡ elem (Fp.neg a₀) (Fp.neg a₁) (Fp.neg a₂) (Fp.neg a₃)
unfolding qneg
neg_is a₀ a₁ a₂ a₃ = refl
