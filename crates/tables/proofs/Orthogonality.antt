-- Orthogonality: the powers of w^m sum to 0 for m from 1 to 2^l − 1.
use mathlib.Core.Path.{◌≡◌, refl, ◌∙◌, ap}
use mathlib.Core.Logic.{◌⊎◌, inl, inr}
use mathlib.Core.List.{[], ◌∷◌}
use Prim.Native.Nat.{ℕ, zero, suc, ◌*◌, ◌^◌, ◌<◌}
use native.Mathlib.Nat.{two-pow-succ}
use native.Mathlib.Omega.{arith}
use Rattle.algebra.specs.Ring.{Ring, pow}
use Rattle.algebra.proofs.RingLaws as Laws
use Rattle.algebra.proofs.Expression.{:0, :1, ◌:+◌, ◌:*◌, :neg, ◌:=◌, ◌given◌⋆◌≈◌}
use Rattle.algebra.proofs.Solver.{solve}
use Rattle.algebra.proofs.Powers.{pow_swap}
use Rattle.algebra.proofs.Orders.{pow_double, odd_power}
use Rattle.tables.specs.Root.{IsRoot}
use Rattle.tables.proofs.Indices.{halves}
use Rattle.tables.proofs.GeometricSums.{geo, geo-suc}
use Rattle.tables.proofs.Roots.{root_square}

module _ {A : Type 0} (R : Ring A) where
  infixl 60 ◌⊕◌
  infixl 70 ◌⊗◌
  open R use {zero as 𝟘, one as 𝟙, add as ◌⊕◌, mul as ◌⊗◌, neg}

  -- by induction on l: an odd m makes the last factor zero, an even one is half of it at the square
  pub geo-root : (l : ℕ) (w : A) → IsRoot R l w → (m : ℕ) → 0 < m → m < 2 ^ l → geo R l (pow R w m) ≡ 𝟘
  geo-root zero w r m pos small = absurd (omega arith)
  geo-root (suc l) w r m pos small = parts (halves m) (geo-root l (w ⊗ w) (root_square R l w r))
    where
      parts : (q : ℕ) × ((m ≡ 2 * q) ⊎ (m ≡ suc (2 * q))) → ((k : ℕ) → 0 < k → k < 2 ^ l → geo R l (pow R (w ⊗ w) k) ≡ 𝟘) → geo R (suc l) (pow R w m) ≡ 𝟘
      parts (q, inl e) ih =
          geo-suc R l (pow R w m)
          ∙ ap (λ x. x ⊗ (𝟙 ⊕ pow R (pow R w m) (2 ^ l))) (ap (geo R l) (ap (pow R w) e ∙ pow_double R w q) ∙ ih q (omega arith) (omega (arith, two-pow-succ l)))
          ∙ Laws.zero-mul R _
      parts (q, inr e) ih =
          geo-suc R l (pow R w m)
          ∙ solve R (geo R l (pow R w m) ∷ pow R (pow R w m) (2 ^ l) ∷ []) (λ g p. g :* (:1 :+ p) := :0 given g ⋆ p ≈ :neg :1) refl
          (pow_swap R w m (2 ^ l) ∙ ap (λ x. pow R x m) r ∙ ap (pow R (neg 𝟙)) e ∙ odd_power R q)
