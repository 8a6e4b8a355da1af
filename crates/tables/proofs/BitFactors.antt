-- The factor of a bit, where the bit is 0 and where it is not.
use mathlib.Core.Path.{◌≡◌, refl, ◌∙◌, ap}
use mathlib.Core.List.{List}
use Prim.Native.Nat.{ℕ, zero, suc}
use native.Mathlib.Omega.{arith}
use Rattle.algebra.specs.Multilinear.{bit_factor}
use Rattle.field.specs.Element.{Elem, F, ◌⊖◌, elem_of, words_of}
use Rattle.field.proofs.Elements.{elem_of_words}

pub bit-off : (x : Elem) (b : ℕ) {o r : List ℕ} → b ≡ 0 → o ≡ words_of F.one → r ≡ words_of (elem_of o ⊖ x) → r ≡ words_of (bit_factor F x b)
unfolding bit_factor
bit-off x zero e eo er = er ∙ ap (λ v. words_of (v ⊖ x)) (elem_of_words _ eo)
bit-off x (suc b) e eo er = absurd (omega arith)

-- the factor itself
pub bit-set : (x : Elem) (b : ℕ) → (b ≡ 0 → ⊥) → x ≡ bit_factor F x b
unfolding bit_factor
bit-set x zero h = absurd (h refl)
bit-set x (suc b) h = refl

pub bit_on : (x : Elem) (b : ℕ) {r : List ℕ} → (b ≡ 0 → ⊥) → r ≡ words_of x → r ≡ words_of (bit_factor F x b)
bit_on x b h e = e ∙ ap words_of (bit-set x b h)
