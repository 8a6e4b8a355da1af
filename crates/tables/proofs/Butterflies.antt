-- A pass by pairs: with k below 2^s, entries k and k + 2^s of a block of 2^(s+1) come from the same two, by one product; and the transform is interpolation.
use mathlib.Core.Path.{◌≡◌, refl, sym, ◌∙◌, ap, ap₂}
use mathlib.Core.List.{[], ◌∷◌}
use Prim.Native.Nat.{ℕ, suc, ◌+◌, ◌*◌, ◌-◌, ◌%◌, ◌^◌, ◌<◌}
use native.Mathlib.Nat
use native.Mathlib.Nat.{two-pow-succ}
use native.Mathlib.Omega.{arith}
use Rattle.algebra.specs.Ring.{Ring, sub, pow}
use Rattle.algebra.proofs.Expression.{◌:+◌, ◌:-◌, ◌:*◌, :1, :neg, ◌:=◌, ◌given◌⋆◌≈◌}
use Rattle.algebra.proofs.Solver.{solve}
use Rattle.algebra.proofs.Sums.{sum_cong_below}
use Rattle.algebra.proofs.Powers.{pow-add, pow-pow, pow_back}
use Rattle.tables.specs.Root.{Skip}
use Rattle.tables.proofs.Indices.{grid_mod, grid_div}
use Rattle.tables.proofs.Roots.{root_power, inverse, mul-inverse}
use Rattle.tables.specs.Passes.{source, of_order, pass, transformed}
use Rattle.tables.specs.Interpolated.{interpolated}
use Rattle.tables.proofs.Passing.{half_way}

module _ (s k p : ℕ) (small : k < 2 ^ s) where
  -- the two indices, by blocks of 2^s
  low_index : k + 2 ^ suc s * p ≡ k + 2 ^ s * (2 * p)
  low_index = ap (λ n. k + n * p) (Nat.pow-suc 2 s) ∙ ap (λ n. k + n) (Nat.mul_assoc (2 ^ s) 2 p)

  high_index : 2 ^ s + k + 2 ^ suc s * p ≡ k + 2 ^ s * (2 * p + 1)
  high_index = omega (arith, low_index, Nat.mul-add (2 ^ s) (2 * p) 1, Nat.mul-one (2 ^ s))

  pub low_source : source s (k + 2 ^ suc s * p) ≡ k + 2 ^ s * p
  unfolding source
  low_source = ap₂ (λ a b. a + 2 ^ s * b) (ap (λ n. n % 2 ^ s) low_index ∙ grid_mod (2 ^ s) k (2 * p) small) (grid_div (2 ^ suc s) k p (omega (arith, two-pow-succ s)))

  pub high-source : source s (2 ^ s + k + 2 ^ suc s * p) ≡ k + 2 ^ s * p
  unfolding source
  high-source = ap₂ (λ a b. a + 2 ^ s * b) (ap (λ n. n % 2 ^ s) high_index ∙ grid_mod (2 ^ s) k (2 * p + 1) small) (grid_div (2 ^ suc s) (2 ^ s + k) p (omega (arith, two-pow-succ s)))

  module _ {A : Type 0} (R : Ring A) (l : ℕ) (u : A) (a : ℕ → A) where
    infixl 60 ◌⊕◌
    infixl 70 ◌⊗◌
    open R use {one as 𝟙, add as ◌⊕◌, mul as ◌⊗◌, neg}

    abbrev U : A
    U = of_order R l u (suc s)

    pub pass_low : pass R l u s a (k + 2 ^ suc s * p) ≡ a (k + 2 ^ s * p) ⊕ pow R U k ⊗ a (k + 2 ^ s * p + 2 ^ (l - 1))
    unfolding pass
    pass_low = ap₂ (λ x e. a x ⊕ pow R U e ⊗ a (x + 2 ^ (l - 1))) low_source (grid_mod (2 ^ suc s) k p (omega (arith, two-pow-succ s)))

    -- half a turn is −1
    pub pass-high : s < l → pow R u (2 ^ (l - 1)) ≡ neg 𝟙 → pass R l u s a (2 ^ s + k + 2 ^ suc s * p) ≡ sub R (a (k + 2 ^ s * p)) (pow R U k ⊗ a (k + 2 ^ s * p + 2 ^ (l - 1)))
    unfolding pass
    pass-high lt minus =
        ap₂ (λ x e. a x ⊕ pow R U e ⊗ a (x + 2 ^ (l - 1))) high-source (grid_mod (2 ^ suc s) (2 ^ s + k) p (omega (arith, two-pow-succ s)))
        ∙ ap (λ x. a (k + 2 ^ s * p) ⊕ x ⊗ a (k + 2 ^ s * p + 2 ^ (l - 1))) (pow-add R U (2 ^ s) k)
        ∙ solve R (a (k + 2 ^ s * p) ∷ a (k + 2 ^ s * p + 2 ^ (l - 1)) ∷ pow R U k ∷ pow R U (2 ^ s) ∷ [])
        (λ x y t m. x :+ m :* t :* y := x :- t :* y given t :* y ⋆ m ≈ :neg :1) refl turn
      where
        turn : pow R U (2 ^ s) ≡ neg 𝟙
        turn = pow-pow R u (2 ^ (l - suc s)) (2 ^ s) ∙ ap (pow R u) (Nat.mul_comm _ _ ∙ sym (half_way l s lt)) ∙ minus

module _ {A : Type 0} {R : Ring A} {half : A} {l : ℕ} {w : A} (skip : Skip R half l w) where
  infixl 70 ◌⊗◌
  open R use {mul as ◌⊗◌}

  pub interpolated-transformed : (v : ℕ → A) (k : ℕ) → interpolated R half l w v k ≡ pow R half l ⊗ transformed R l (inverse R l w) v k
  unfolding interpolated transformed
  interpolated-transformed v k =
      ap (λ s. pow R half l ⊗ s)
      (sum_cong_below R (2 ^ l) (λ i h.
      ap (λ x. v i ⊗ x)
      (sym (pow-pow R w (2 ^ l - i) k) ∙ ap (λ x. pow R x k) (pow_back R w (inverse R l w) (2 ^ l) i (mul-inverse R l w skip.root) (root_power R l w skip.root) (omega arith))
      ∙ pow-pow R (inverse R l w) i k)))
