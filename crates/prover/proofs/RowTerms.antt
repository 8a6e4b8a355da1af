-- Sums term by term, and the words that a row asks for.
use Rattle.std.proofs.Common.{◌≡◌, ℕ, ◌+◌, ◌*◌, ◌<◌, ◌≤◌, List, sym, refl, ap, ◌∙◌, ap₂, add-one, arith}
use native.Mathlib.Nat
use Rattle.algebra.specs.Sum.{sum}
use Rattle.field.specs.Element.{Elem, F, ◌⊕◌}
use Rattle.prover.specs.Words.{Words}

-- one term of a sum more
pub sum_more : (f : ℕ → Elem) (n : ℕ) {x y : Elem} → x ≡ sum F n f → y ≡ f n → x ⊕ y ≡ sum F (n + 1) f
unfolding sum
sum_more f n e g = ap₂ ◌⊕◌ e g ∙ ap (λ k. sum F k f) (sym (add-one n))

pub sum_none : (f : ℕ → Elem) → F.zero ≡ sum F 0 f
unfolding sum
sum_none f = refl

-- row y of whole rows
pub row_inside : (n : ℕ) {xs : List ℕ} (rows : ℕ) {y : ℕ} → y < rows → Words xs (n * rows) → Words xs (n * y + n)
row_inside n {xs} rows {y} h w =
    let m : n * (y + 1) ≤ n * rows = Nat.mul-le-mul_left n (omega arith) in
    let r = w.room in
    record { room = omega arith; canonical = w.canonical }
