-- The geometric kernel is the product of the indicator of a short column's rows and of the eq kernel of their order: ind · eq_uni, as polynomials in z.
use mathlib.Core.Path.{◌≡◌, refl, sym, ◌∙◌, ap, ap₂}
use mathlib.Core.List.{[], ◌∷◌}
use Prim.Native.Nat.{ℕ, suc, ◌+◌, ◌*◌, ◌-◌, ◌%◌, ◌^◌, ◌<◌}
use native.Mathlib.Nat
use native.Mathlib.Omega.{arith}
use Rattle.algebra.specs.Ring.{Ring, pow}
use Rattle.algebra.specs.Sum.{sum}
use Rattle.algebra.specs.Polynomial.{value}
use Rattle.algebra.specs.Listed.{listed}
use Rattle.algebra.proofs.Expression.{◌:*◌, ◌:=◌}
use Rattle.algebra.proofs.Solver.{solve}
use Rattle.algebra.proofs.Sums.{sum_cong, sum_cong_below, sum-mul, sum-mul-right, sum_first, sum_grid}
use Rattle.algebra.proofs.Powers.{two_pow-pos, two_pow-add, suc_pred, pow-add, pow-pow}
use Rattle.tables.specs.Root.{Skip}
use Rattle.tables.specs.EqUni.{eq_uni}
use Rattle.tables.specs.InUni.{in_uni}
use Rattle.tables.proofs.Indices.{grid_mod}
use Rattle.tables.proofs.Roots.{skip_raise, skip_comm}
use Rattle.tables.proofs.GeometricSums.{geo, mean}
use Rattle.tables.proofs.LagrangeBasis.{lagrange_first}
use Rattle.tables.proofs.EqUniClosedForm.{eq_uni_closed}
use Rattle.tables.proofs.PolynomialValues.{value-listed}
use Rattle.tables.specs.Geometric.{geometric}

module _ {A : Type 0} {R : Ring A} {half w : A} (o d : ℕ) (skip : Skip R half (o + d) w) (y z : A) where
  infixl 60 ◌⊕◌
  infixl 70 ◌⊗◌
  open R use {one as 𝟙, add as ◌⊕◌, mul as ◌⊗◌, mul_comm, mul_one}

  abbrev M : ℕ
  M = 2 ^ o

  abbrev c : ℕ
  c = 2 ^ d

  -- a factor for the block, one for the place in it
  term : (i b : ℕ) → i < M → geometric R half (o + d) o y (i + M * b) ⊗ pow R z (i + M * b) ≡ (pow R half d ⊗ pow R (pow R z M) b) ⊗ (pow R half o ⊗ (pow R y ((M - i) % M) ⊗ pow R z i))
  unfolding geometric
  term i b h =
      ap₂ (λ k p. pow R half (o + d) ⊗ pow R y ((M - k) % M) ⊗ p) (grid_mod M i b h) (pow-add R z i (M * b) ∙ ap (λ x. pow R z i ⊗ x) (sym (pow-pow R z M b)))
      ∙ ap (λ x. x ⊗ pow R y ((M - i) % M) ⊗ (pow R z i ⊗ pow R (pow R z M) b)) (pow-add R half o d)
      ∙ solve R (pow R half o ∷ pow R half d ∷ pow R y ((M - i) % M) ∷ pow R z i ∷ pow R (pow R z M) b ∷ []) (λ g h y z b. g :* h :* y :* (z :* b) := h :* b :* (g :* (y :* z))) refl

  inner : sum R M (λ i. pow R half o ⊗ (pow R y ((M - i) % M) ⊗ pow R z i)) ≡ eq_uni R half o (pow R w (2 ^ d)) z y
  unfolding pow
  inner =
      sum-mul R M (pow R half o) (λ i. pow R y ((M - i) % M) ⊗ pow R z i)
      ∙ ap (λ x. pow R half o ⊗ x)
      (ap (λ n. sum R n (λ i. pow R y ((M - i) % M) ⊗ pow R z i)) (sym (suc_pred (two_pow-pos o)))
      ∙ sum_first R (M - 1) (λ i. pow R y ((M - i) % M) ⊗ pow R z i)
      ∙ ap₂ ◌⊕◌ first (sum_cong_below R (M - 1) (λ i l. ap (λ n. pow R y n ⊗ pow R z (suc i)) (Nat.mod-eq_of_lt {n = M - suc i} {m = M} (omega arith)) ∙ mul_comm _ _)))
      ∙ sym (eq_uni_closed (skip_raise o d skip) z y)
    where
      first : pow R y ((M - 0) % M) ⊗ pow R z 0 ≡ 𝟙
      first = ap (λ n. pow R y n ⊗ pow R z 0) (ap (λ n. n % M) {x = M - 0} {y = M} (omega arith) ∙ Nat.mod_self M) ∙ mul_one 𝟙

  outer : sum R c (λ b. pow R half d ⊗ pow R (pow R z M) b) ≡ in_uni R half o d w z
  unfolding in_uni mean geo
  outer = sum-mul R c (pow R half d) (pow R (pow R z M)) ∙ sym (lagrange_first (skip_raise d o (skip_comm o d skip)) (pow R z M))

  pub geometric-value : value R (listed (2 ^ (o + d)) (geometric R half (o + d) o y)) z ≡ in_uni R half o d w z ⊗ eq_uni R half o (pow R w (2 ^ d)) z y
  geometric-value =
      value-listed R (2 ^ (o + d)) (geometric R half (o + d) o y) z
      ∙ ap (λ n. sum R n (λ k. geometric R half (o + d) o y k ⊗ pow R z k)) (two_pow-add o d)
      ∙ sum_grid R M c (λ k. geometric R half (o + d) o y k ⊗ pow R z k)
      ∙ sum_cong R c (λ b. sum_cong_below R M (λ i h. term i b h) ∙ sum-mul R M (pow R half d ⊗ pow R (pow R z M) b) _)
      ∙ sum-mul-right R c _ (λ b. pow R half d ⊗ pow R (pow R z M) b)
      ∙ ap₂ ◌⊗◌ outer inner
