-- A column laid at a stride, folded at a point: in_uni times the fold over the raised generator.
use mathlib.Core.Path.{◌≡◌, refl, sym, ◌∙◌, ap, ap₂}
use mathlib.Core.List.{[], ◌∷◌}
use Prim.Native.Nat.{ℕ, zero, suc, ◌+◌, ◌*◌, ◌^◌, ◌<◌}
use native.Mathlib.Nat
use native.Mathlib.Omega.{arith}
use Rattle.algebra.specs.Ring.{Ring, pow}
use Rattle.algebra.specs.Sum.{sum}
use Rattle.algebra.proofs.RingLaws as Laws
use Rattle.algebra.proofs.Expression.{◌:*◌, ◌:=◌}
use Rattle.algebra.proofs.Solver.{solve}
use Rattle.algebra.proofs.Sums.{sum_cong_below, sum-mul, sum_grid, sum_delta}
use Rattle.algebra.proofs.Powers.{two_pow-pos, two_pow-add}
use Rattle.tables.specs.Root.{Skip}
use Rattle.tables.specs.Lagrange.{lagrange}
use Rattle.tables.specs.InUni.{in_uni}
use Rattle.tables.specs.FoldPle.{fold_ple}
use Rattle.tables.specs.AtStride.{on_zero, at_stride}
use Rattle.tables.proofs.Indices.{grid_mod, grid_div}
use Rattle.tables.proofs.ShortColumns.{lagrange-short}

module _ {A : Type 0} (R : Ring A) where
  pub at_stride_at : (s : ℕ) (f : ℕ → A) (i t : ℕ) → i < s → at_stride R s f (i + s * t) ≡ on_zero R i (f t)
  unfolding at_stride
  at_stride_at s f i t h = ap₂ (λ a b. on_zero R a (f b)) (grid_mod s i t h) (grid_div s i t h)

module _ {A : Type 0} {R : Ring A} {half w : A} (h d : ℕ) (skip : Skip R half (h + d) w) where
  infixl 70 ◌⊗◌
  open R use {zero as 𝟘, mul as ◌⊗◌}

  -- the Lagrange basis of all rows, and of the column's
  abbrev L : ℕ → A → A
  L = lagrange R half (h + d) w

  abbrev S : ℕ → A → A
  S = lagrange R half h (pow R w (2 ^ d))

  pub fold_ple-at_stride : (f : ℕ → A) (z : A) (y : ℕ)
      → fold_ple R half (h + d) w (at_stride R (2 ^ d) f) z y ≡ in_uni R half h d w z ⊗ fold_ple R half h (pow R w (2 ^ d)) f z y
  unfolding fold_ple on_zero
  fold_ple-at_stride f z y =
      ap (λ n. sum R n term) (two_pow-add h d ∙ Nat.mul_comm (2 ^ h) (2 ^ d)) ∙ sum_grid R (2 ^ d) (2 ^ h) term
      ∙ sum_cong_below R (2 ^ h) (λ t s.
      sum_cong_below R (2 ^ d) (λ i r. ap (λ x. x ⊗ L (i + 2 ^ d * t) z) (ap (at_stride R (2 ^ d) f) (index i t) ∙ at_stride_at R (2 ^ d) f i (t + 2 ^ h * y) r))
      ∙ sum_delta R (2 ^ d) (λ i. on_zero R i (f (t + 2 ^ h * y)) ⊗ L (i + 2 ^ d * t) z) 0 (two_pow-pos d) (other t)
      ∙ ap (λ x. f (t + 2 ^ h * y) ⊗ x) (ap (λ k. L k z) (Nat.zero-add (2 ^ d * t) ∙ Nat.mul_comm (2 ^ d) t) ∙ lagrange-short h d skip t z (omega arith))
      ∙ solve R (f (t + 2 ^ h * y) ∷ S t z ∷ in_uni R half h d w z ∷ []) (λ f s i. f :* (s :* i) := i :* (f :* s)) refl)
      ∙ sum-mul R (2 ^ h) (in_uni R half h d w z) (λ t. f (t + 2 ^ h * y) ⊗ S t z)
    where
      term : ℕ → A
      term a = at_stride R (2 ^ d) f (a + 2 ^ (h + d) * y) ⊗ L a z

      index : (i t : ℕ) → i + 2 ^ d * t + 2 ^ (h + d) * y ≡ i + 2 ^ d * (t + 2 ^ h * y)
      index i t =
          Nat.add_assoc i (2 ^ d * t) (2 ^ (h + d) * y)
          ∙ ap (λ k. i + k)
          (ap (λ k. 2 ^ d * t + k) (ap (λ n. n * y) (two_pow-add h d ∙ Nat.mul_comm (2 ^ h) (2 ^ d)) ∙ Nat.mul_assoc (2 ^ d) (2 ^ h) y)
          ∙ sym (Nat.mul-add (2 ^ d) t (2 ^ h * y)))

      other : (t i : ℕ) → i < 2 ^ d → ¬ (i ≡ 0) → on_zero R i (f (t + 2 ^ h * y)) ⊗ L (i + 2 ^ d * t) z ≡ 𝟘
      other t zero r ne = absurd (ne refl)
      other t (suc i) r ne = Laws.zero-mul R _
