-- The field has p⁴ elements: the enumeration has each of them once.
use mathlib.Core.Path.{◌≡◌, ◌∙◌, ap}
use Prim.Native.Nat.{ℕ, ◌+◌, ◌*◌, ◌/◌, ◌<◌}
use native.Mathlib.Nat
use native.Mathlib.Omega.{arith}
use native.Mathlib.Fin
use Rattle.algebra.specs.Count.{EachOnce}
use Rattle.algebra.proofs.QuadraticRing.{pair}
use Rattle.field.specs.Word.{p, Word, word_of, number}
use Rattle.field.specs.Element.{Elem}
use Rattle.field.specs.Enumeration.{field_size, enumeration}
use Rattle.field.proofs.Residues.{number_word_of, word_of_number}

-- the number with these digits
unfoldable index_of : Elem → ℕ
index_of ((a₀, a₂), (a₁, a₃)) = number a₀ + p * (number a₁ + p * (number a₂ + p * number a₃))

index_of_below : (a : Elem) → index_of a < field_size
unfolding index_of
index_of_below ((a₀, a₂), (a₁, a₃)) = omega (arith, a₀.1, a₁.1, a₂.1, a₃.1)

-- the lowest digit, and the number of the others
digit : (a : Word) (y : ℕ) → word_of (number a + p * y) ≡ a
digit a y = Fin.val_path (number_word_of (number a + p * y) ∙ Nat.add-mul-mod_self_left (number a) p y ∙ Nat.mod-eq_of_lt a.1)

others : (a : Word) (y : ℕ) → (number a + p * y) / p ≡ y
others a y = omega (arith, a.1)

there : (a : Elem) → enumeration (index_of a) ≡ a
unfolding index_of enumeration
there ((a₀, a₂), (a₁, a₃)) =
    let e₁ = others a₀ (number a₁ + p * (number a₂ + p * number a₃)) in
    let e₂ = ap (λ x. x / p) e₁ ∙ others a₁ (number a₂ + p * number a₃) in
    let e₃ = ap (λ x. x / p) e₂ ∙ others a₂ (number a₃) in
    pair (pair (digit a₀ (number a₁ + p * (number a₂ + p * number a₃))) (ap (λ x. word_of x) e₂ ∙ digit a₂ (number a₃)))
    (pair (ap (λ x. word_of x) e₁ ∙ digit a₁ (number a₂ + p * number a₃)) (ap (λ x. word_of x) e₃ ∙ word_of_number a₃))

once : (i : ℕ) → i < field_size → index_of (enumeration i) ≡ i
unfolding index_of enumeration
once i h = omega (arith, number_word_of i, number_word_of (i / p), number_word_of (i / p / p), number_word_of (i / p / p / p))

pub each_once : EachOnce field_size enumeration
each_once = record { index = index_of; below = index_of_below; there = there; once = once }
