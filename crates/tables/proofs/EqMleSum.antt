-- The kernel of the cube: the sum over the eq tables of two points.
use mathlib.Core.Path.{◌≡◌, refl, sym, ◌∙◌, ap₂}
use mathlib.Core.List.{List, [], ◌∷◌}
use Prim.Native.Nat.{ℕ, ◌^◌}
use native.Mathlib.Nat.{suc_inj, suc-ne-zero}
use lib.ListN.{length}
use Rattle.algebra.specs.Ring.{Ring}
use Rattle.algebra.specs.Sum.{sum}
use Rattle.algebra.specs.Multilinear.{cube_factor, mle}
use Rattle.algebra.proofs.Expression.{:0, :1, ◌:+◌, ◌:-◌, ◌:*◌, ◌:=◌, ◌given◌⋆◌≈◌}
use Rattle.algebra.proofs.Solver.{solve}
use Rattle.algebra.proofs.Sums.{sum_cong, sum-mul, sum_lowest}
use Rattle.algebra.proofs.Multilinears.{cube_factor_even, cube_factor_odd}
use Rattle.tables.specs.EqMle.{eq_mle}

module _ {A : Type 0} (R : Ring A) where
  infixl 60 ◌⊕◌ ◌⊖◌
  infixl 70 ◌⊗◌
  open R use {one as 𝟙, add as ◌⊕◌, mul as ◌⊗◌, neg, mul_comm}

  abbrev ◌⊖◌ : A → A → A
  a ⊖ b = a ⊕ neg b

  pub eq_mle_nil : eq_mle R [] [] ≡ 𝟙
  unfolding eq_mle
  eq_mle_nil = refl

  pub eq_mle_cons : (x y : A) (xs ys : List A) → eq_mle R (x ∷ xs) (y ∷ ys) ≡ (x ⊗ y ⊕ (𝟙 ⊖ x) ⊗ (𝟙 ⊖ y)) ⊗ eq_mle R xs ys
  unfolding eq_mle
  eq_mle_cons x y xs ys = refl

  pub sum-eq_mle : (xs ys : List A) → length xs ≡ length ys → sum R (2 ^ length xs) (λ i. cube_factor R xs i ⊗ cube_factor R ys i) ≡ eq_mle R xs ys
  unfolding eq_mle cube_factor sum
  sum-eq_mle [] [] h = solve R [] (:0 :+ :1 :* :1 := :1) refl
  sum-eq_mle [] (y ∷ ys) h = absurd (suc-ne-zero _ (sym h))
  sum-eq_mle (x ∷ xs) [] h = absurd (suc-ne-zero _ h)
  sum-eq_mle (x ∷ xs) (y ∷ ys) h =
      sum_lowest R (length xs) (λ i. cube_factor R (x ∷ xs) i ⊗ cube_factor R (y ∷ ys) i)
      ∙ ap₂ ◌⊕◌
      (sum_cong R (2 ^ length xs) (λ i. ap₂ ◌⊗◌ (cube_factor_even R x xs i) (cube_factor_even R y ys i) ∙ regroup (𝟙 ⊖ x) (𝟙 ⊖ y) i)
      ∙ sum-mul R (2 ^ length xs) ((𝟙 ⊖ x) ⊗ (𝟙 ⊖ y)) term)
      (sum_cong R (2 ^ length xs) (λ i. ap₂ ◌⊗◌ (cube_factor_odd R x xs i) (cube_factor_odd R y ys i) ∙ regroup x y i) ∙ sum-mul R (2 ^ length xs) (x ⊗ y) term)
      ∙ solve R (x ∷ y ∷ sum R (2 ^ length xs) term ∷ eq_mle R xs ys ∷ [])
      (λ x y s e. (:1 :- x) :* (:1 :- y) :* s :+ x :* y :* s := (x :* y :+ (:1 :- x) :* (:1 :- y)) :* e given x :* y :+ (:1 :- x) :* (:1 :- y) ⋆ s ≈ e)
      refl (sum-eq_mle xs ys (suc_inj h))
    where
      term : ℕ → A
      term i = cube_factor R xs i ⊗ cube_factor R ys i

      regroup : (a b : A) (i : ℕ) → a ⊗ cube_factor R xs i ⊗ (b ⊗ cube_factor R ys i) ≡ a ⊗ b ⊗ term i
      regroup a b i = solve R (a ∷ b ∷ cube_factor R xs i ∷ cube_factor R ys i ∷ []) (λ a b p q. a :* p :* (b :* q) := a :* b :* (p :* q)) refl

  -- the polynomial through an eq table
  pub mle-cube_factor : (xs ys : List A) → length xs ≡ length ys → mle R (cube_factor R ys) xs ≡ eq_mle R xs ys
  unfolding mle
  mle-cube_factor xs ys h = sum_cong R (2 ^ length xs) (λ i. mul_comm _ _) ∙ sum-eq_mle xs ys h
