-- The value of a product of polynomials is the product of their values.
use mathlib.Core.Path.{◌≡◌, refl, sym, ◌∙◌, ap, ap₂}
use mathlib.Core.List.{[], ◌∷◌}
use Prim.Native.Nat.{ℕ, suc, ◌+◌, ◌*◌, ◌-◌, ◌<◌, ◌≤◌}
use native.Mathlib.Nat
use native.Mathlib.Omega.{arith}
use Rattle.algebra.specs.Ring.{Ring, pow}
use Rattle.algebra.specs.Sum.{sum}
use Rattle.algebra.specs.Polynomial.{value}
use Rattle.algebra.specs.Listed.{listed}
use Rattle.algebra.proofs.RingLaws as Laws
use Rattle.algebra.proofs.Expression.{◌:*◌, ◌:=◌}
use Rattle.algebra.proofs.Solver.{solve}
use Rattle.algebra.proofs.Sums.{sum_cong, sum_cong_below, sum-mul-right, sum-product, sum_none}
use Rattle.algebra.proofs.Powers.{pow-add}
use Rattle.tables.specs.Window.{below, window}
use Rattle.tables.proofs.Windows.{window_in, window_late}
use Rattle.tables.proofs.PolynomialValues.{value-listed}
use Rattle.tables.specs.Product.{product_at}
use Rattle.tables.proofs.Triangles.{triangle, sum-longer}

module _ {A : Type 0} (R : Ring A) where
  infixl 70 ◌⊗◌
  open R use {zero as 𝟘, mul as ◌⊗◌}

  pub below_in : (n : ℕ) (f : ℕ → A) (t : ℕ) → t < n → below R n f t ≡ f t
  unfolding window
  below_in n f t h = ap (below R n f) (sym (Nat.zero-add t)) ∙ window_in R 0 n f t h

  pub below_out : (n : ℕ) (f : ℕ → A) (t : ℕ) → n ≤ t → below R n f t ≡ 𝟘
  unfolding window
  below_out n f t h = window_late R 0 n f t (omega arith)

  pub product_value : (n : ℕ) (f g : ℕ → A) (z : A) → value R (listed (2 * n - 1) (product_at R n f g)) z ≡ value R (listed n f) z ⊗ value R (listed n g) z
  unfolding product_at
  product_value n f g z =
      value-listed R (2 * n - 1) (product_at R n f g) z
      ∙ sum_cong R (2 * n - 1) (λ j. sym (sum-mul-right R (suc j) (pow R z j) (λ a. F a ⊗ G (j - a))) ∙ sum_cong_below R (suc j) (λ a h. term j a (omega arith)))
      ∙ triangle R (2 * n - 1) (λ a b. F a ⊗ pow R z a ⊗ (G b ⊗ pow R z b))
      ∙ sum-longer R n (2 * n - 1) _ (omega arith) (λ a h. row_zero a h)
      ∙ sum_cong_below R n (λ a h. sum-longer R n (2 * n - 1 - a) _ (omega arith) (λ b k. last_zero a b k) ∙ sum_cong_below R n (λ b k. inside a b h k))
      ∙ sym (sum-product R n n (λ a. f a ⊗ pow R z a) (λ b. g b ⊗ pow R z b))
      ∙ ap₂ ◌⊗◌ (sym (value-listed R n f z)) (sym (value-listed R n g z))
    where
      F : ℕ → A
      F = below R n f

      G : ℕ → A
      G = below R n g

      term : (j a : ℕ) → a ≤ j → F a ⊗ G (j - a) ⊗ pow R z j ≡ F a ⊗ pow R z a ⊗ (G (j - a) ⊗ pow R z (j - a))
      term j a h =
          ap (λ p. F a ⊗ G (j - a) ⊗ p) (ap (pow R z) {x = j} {y = a + (j - a)} (omega arith) ∙ pow-add R z a (j - a))
          ∙ solve R (F a ∷ G (j - a) ∷ pow R z a ∷ pow R z (j - a) ∷ []) (λ f g p q. f :* g :* (p :* q) := f :* p :* (g :* q)) refl

      row_zero : (a : ℕ) → n ≤ a → sum R (2 * n - 1 - a) (λ b. F a ⊗ pow R z a ⊗ (G b ⊗ pow R z b)) ≡ 𝟘
      row_zero a h =
          sum_none R (2 * n - 1 - a) _
          (λ b _. ap (λ x. x ⊗ pow R z a ⊗ (G b ⊗ pow R z b)) (below_out n f a h) ∙ ap (λ x. x ⊗ (G b ⊗ pow R z b)) (Laws.zero-mul R _) ∙ Laws.zero-mul R _)

      last_zero : (a b : ℕ) → n ≤ b → F a ⊗ pow R z a ⊗ (G b ⊗ pow R z b) ≡ 𝟘
      last_zero a b k = ap (λ x. F a ⊗ pow R z a ⊗ (x ⊗ pow R z b)) (below_out n g b k) ∙ ap (λ x. F a ⊗ pow R z a ⊗ x) (Laws.zero-mul R _) ∙ Laws.mul-zero R _

      inside : (a b : ℕ) → a < n → b < n → F a ⊗ pow R z a ⊗ (G b ⊗ pow R z b) ≡ f a ⊗ pow R z a ⊗ (g b ⊗ pow R z b)
      inside a b h k = ap₂ (λ x y. x ⊗ pow R z a ⊗ (y ⊗ pow R z b)) (below_in n f a h) (below_in n g b k)
