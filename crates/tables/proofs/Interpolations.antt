-- The interpolated polynomial has the value Σ_i v_i · L_i(z) at z.
use mathlib.Core.Path.{◌≡◌, refl, sym, ◌∙◌}
use mathlib.Core.List.{[], ◌∷◌}
use Prim.Native.Nat.{ℕ, ◌*◌, ◌-◌, ◌^◌}
use Rattle.algebra.specs.Ring.{Ring, pow}
use Rattle.algebra.specs.Sum.{sum}
use Rattle.algebra.specs.Polynomial.{value}
use Rattle.algebra.specs.Listed.{listed}
use Rattle.algebra.proofs.Expression.{◌:*◌, ◌:=◌}
use Rattle.algebra.proofs.Solver.{solve}
use Rattle.algebra.proofs.Sums.{sum_cong, sum-mul, sum_swap}
use Rattle.tables.specs.Lagrange.{lagrange}
use Rattle.tables.proofs.PolynomialValues.{value-listed}
use Rattle.tables.specs.Interpolated.{interpolated}

module _ {A : Type 0} (R : Ring A) (half : A) (l : ℕ) (w : A) where
  infixl 70 ◌⊗◌
  open R use {mul as ◌⊗◌}

  pub interpolated-value : (v : ℕ → A) (z : A) → value R (listed (2 ^ l) (interpolated R half l w v)) z ≡ sum R (2 ^ l) (λ i. v i ⊗ lagrange R half l w i z)
  unfolding interpolated lagrange
  interpolated-value v z =
      value-listed R (2 ^ l) (interpolated R half l w v) z
      ∙ sum_cong R (2 ^ l) (λ k.
      solve R (h ∷ sum R (2 ^ l) (λ i. v i ⊗ pow R w ((2 ^ l - i) * k)) ∷ pow R z k ∷ []) (λ h s z. h :* s :* z := h :* z :* s) refl
      ∙ sym (sum-mul R (2 ^ l) (h ⊗ pow R z k) (λ i. v i ⊗ pow R w ((2 ^ l - i) * k))))
      ∙ sum_swap R (2 ^ l) (2 ^ l) (λ k i. h ⊗ pow R z k ⊗ (v i ⊗ pow R w ((2 ^ l - i) * k)))
      ∙ sum_cong R (2 ^ l) (λ i.
      sum_cong R (2 ^ l) (λ k. solve R (h ∷ pow R z k ∷ v i ∷ pow R w ((2 ^ l - i) * k) ∷ []) (λ h z v w. h :* z :* (v :* w) := v :* h :* (z :* w)) refl)
      ∙ sum-mul R (2 ^ l) (v i ⊗ h) (λ k. pow R z k ⊗ pow R w ((2 ^ l - i) * k)) ∙ R.mul_assoc _ _ _)
    where
      h : A
      h = pow R half l
