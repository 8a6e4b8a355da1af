-- The rotation kernel of the cube: its recursion on the lowest coordinate, which is the loop of `eval_eq_rot_cube`.
use mathlib.Core.Path.{◌≡◌, refl, ◌∙◌, ap, ap₂}
use mathlib.Core.List.{List, [], ◌∷◌}
use Prim.Native.Nat.{ℕ, suc, ◌+◌, ◌*◌, ◌^◌}
use native.Mathlib.Nat.{pow-succ'}
use lib.ListN.{length}
use Rattle.algebra.specs.Ring.{Ring}
use Rattle.algebra.specs.Sum.{sum}
use Rattle.algebra.specs.Multilinear.{cube_factor}
use Rattle.algebra.proofs.Expression.{:0, :1, ◌:+◌, ◌:*◌, ◌:=◌}
use Rattle.algebra.proofs.Solver.{solve}
use Rattle.algebra.proofs.Sums.{sum_cong, sum-mul, sum_lowest}
use Rattle.algebra.proofs.Powers.{two_pow-pos}
use Rattle.algebra.proofs.Multilinears.{cube_factor_even, cube_factor_odd}
use Rattle.tables.specs.Index.{before}
use Rattle.tables.specs.EqMle.{eq_mle}
use Rattle.tables.specs.RotCube.{rot_cube}
use Rattle.tables.proofs.Indices.{before_even, before_odd}
use Rattle.tables.proofs.EqMleSum.{sum-eq_mle}

module _ {A : Type 0} (R : Ring A) where
  infixl 60 ◌⊕◌ ◌⊖◌
  infixl 70 ◌⊗◌
  open R use {one as 𝟙, add as ◌⊕◌, mul as ◌⊗◌, neg, add_comm}

  abbrev ◌⊖◌ : A → A → A
  a ⊖ b = a ⊕ neg b

  pub rot_cube_nil : rot_cube R [] [] ≡ 𝟙
  unfolding rot_cube sum cube_factor
  rot_cube_nil = solve R [] (:0 :+ :1 :* :1 := :1) refl

  pub rot_cube_cons : (x y : A) (xs ys : List A) → length xs ≡ length ys
      → rot_cube R (x ∷ xs) (y ∷ ys) ≡ x ⊗ (𝟙 ⊖ y) ⊗ eq_mle R xs ys ⊕ (𝟙 ⊖ x) ⊗ y ⊗ rot_cube R xs ys
  unfolding rot_cube
  rot_cube_cons x y xs ys h =
      sum_lowest R (length xs) (λ i. cube_factor R (x ∷ xs) i ⊗ cube_factor R (y ∷ ys) (before (2 ^ suc (length xs)) i))
      ∙ ap₂ ◌⊕◌
      (sum_cong R (2 ^ length xs) even ∙ sum-mul R (2 ^ length xs) ((𝟙 ⊖ x) ⊗ y) (λ i. cube_factor R xs i ⊗ cube_factor R ys (before (2 ^ length xs) i)))
      (sum_cong R (2 ^ length xs) odd ∙ sum-mul R (2 ^ length xs) (x ⊗ (𝟙 ⊖ y)) (λ i. cube_factor R xs i ⊗ cube_factor R ys i)
      ∙ ap (λ s. x ⊗ (𝟙 ⊖ y) ⊗ s) (sum-eq_mle R xs ys h))
      ∙ add_comm _ _
    where
      regroup : (a b p q : A) → a ⊗ p ⊗ (b ⊗ q) ≡ a ⊗ b ⊗ (p ⊗ q)
      regroup a b p q = solve R (a ∷ b ∷ p ∷ q ∷ []) (λ a b p q. a :* p :* (b :* q) := a :* b :* (p :* q)) refl

      even : (i : ℕ) → cube_factor R (x ∷ xs) (2 * i) ⊗ cube_factor R (y ∷ ys) (before (2 ^ suc (length xs)) (2 * i))
          ≡ (𝟙 ⊖ x) ⊗ y ⊗ (cube_factor R xs i ⊗ cube_factor R ys (before (2 ^ length xs) i))
      even i =
          ap₂ ◌⊗◌ (cube_factor_even R x xs i)
          (ap (cube_factor R (y ∷ ys)) (ap (λ n. before n (2 * i)) (pow-succ' 2 (length xs)) ∙ before_even (2 ^ length xs) i (two_pow-pos (length xs)))
          ∙ cube_factor_odd R y ys (before (2 ^ length xs) i))
          ∙ regroup _ _ _ _

      odd : (i : ℕ) → cube_factor R (x ∷ xs) (2 * i + 1) ⊗ cube_factor R (y ∷ ys) (before (2 ^ suc (length xs)) (2 * i + 1))
          ≡ x ⊗ (𝟙 ⊖ y) ⊗ (cube_factor R xs i ⊗ cube_factor R ys i)
      odd i =
          ap₂ ◌⊗◌ (cube_factor_odd R x xs i)
          (ap (cube_factor R (y ∷ ys)) (ap (λ n. before n (2 * i + 1)) (pow-succ' 2 (length xs)) ∙ before_odd (2 ^ length xs) i) ∙ cube_factor_even R y ys i)
          ∙ regroup _ _ _ _
