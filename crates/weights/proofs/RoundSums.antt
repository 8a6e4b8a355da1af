-- A round over products of tables, summed over columns: with the lowest variable free it is a quadratic, whose values at 0 and 1 add up to the sum
-- before the round.
use mathlib.Core.Path.{◌≡◌, refl, sym, ◌∙◌, ap₂}
use mathlib.Core.List.{[], ◌∷◌}
use Prim.Native.Nat.{ℕ, ◌+◌, ◌*◌}
use Rattle.algebra.specs.Ring.{Ring, num}
use Rattle.algebra.specs.Sum.{sum}
use Rattle.algebra.specs.Multilinear.{line, fold_mle}
use Rattle.algebra.proofs.Expression.{con, :0, :1, ◌:+◌, ◌:-◌, ◌:*◌, :neg, ◌:=◌, ◌given◌⋆◌≈◌}
use Rattle.algebra.proofs.Solver.{solve}
use Rattle.algebra.proofs.Sums.{sum_cong, sum-add, sum-mul, sum_even_odd}
use Rattle.tables.specs.Quadratic.{quadratic}
use Rattle.algebra.proofs.Corners.{fold_mle-zero, fold_mle_one}

module _ {A : Type 0} (R : Ring A) where
  infixl 60 ◌⊕◌ ◌⊖◌
  infixl 70 ◌⊗◌
  open R use {zero as 𝟘, one as 𝟙, add as ◌⊕◌, mul as ◌⊗◌, neg}

  abbrev ◌⊖◌ : A → A → A
  a ⊖ b = a ⊕ neg b

  -- Σ over the columns and over m entries of the products of two tables
  unfoldable pub pair_sum : ℕ → ℕ → (ℕ → ℕ → A) → (ℕ → ℕ → A) → A
  pair_sum columns m a b = sum R columns (λ k. sum R m (λ y. a k y ⊗ b k y))

  -- the same with both tables folded at x
  unfoldable pub round_sum : ℕ → ℕ → (ℕ → ℕ → A) → (ℕ → ℕ → A) → A → A
  round_sum columns m a b x = pair_sum columns m (λ k. fold_mle R (a k) x) (λ k. fold_mle R (b k) x)

  pub round_sum-claim : (columns m : ℕ) (a b : ℕ → ℕ → A) → round_sum columns m a b 𝟘 ⊕ round_sum columns m a b 𝟙 ≡ pair_sum columns (2 * m) a b
  unfolding round_sum pair_sum
  round_sum-claim columns m a b =
      sym (sum-add R columns _ _)
      ∙ sum_cong R columns (λ k.
      ap₂ ◌⊕◌ (sum_cong R m (λ y. ap₂ ◌⊗◌ (fold_mle-zero R (a k) y) (fold_mle-zero R (b k) y)))
      (sum_cong R m (λ y. ap₂ ◌⊗◌ (fold_mle_one R (a k) y) (fold_mle_one R (b k) y)))
      ∙ sym (sum_even_odd R m (λ i. a k i ⊗ b k i)))

  module _ (half : A) where
    sum-quadratic : (n : ℕ) (f g h : ℕ → A) (x : A) → sum R n (λ y. quadratic R half (f y) (g y) (h y) x) ≡ quadratic R half (sum R n f) (sum R n g) (sum R n h) x
    unfolding quadratic
    sum-quadratic n f g h x =
        sum-add R n (λ y. half ⊗ (x ⊖ 𝟙) ⊗ (x ⊖ num R 2) ⊗ f y ⊕ x ⊗ (num R 2 ⊖ x) ⊗ g y) (λ y. half ⊗ x ⊗ (x ⊖ 𝟙) ⊗ h y)
        ∙ ap₂ ◌⊕◌
        (sum-add R n (λ y. half ⊗ (x ⊖ 𝟙) ⊗ (x ⊖ num R 2) ⊗ f y) (λ y. x ⊗ (num R 2 ⊖ x) ⊗ g y) ∙ ap₂ ◌⊕◌ (sum-mul R n _ f) (sum-mul R n _ g))
        (sum-mul R n _ h)

    module _ (half_two : half ⊗ num R 2 ≡ 𝟙) where
      -- a product of two lines is the quadratic of its values
      lines_quadratic : (a b c d x : A) → line R a b x ⊗ line R c d x
          ≡ quadratic R half (line R a b 𝟘 ⊗ line R c d 𝟘) (line R a b 𝟙 ⊗ line R c d 𝟙) (line R a b (num R 2) ⊗ line R c d (num R 2)) x
      unfolding line quadratic
      lines_quadratic a b c d x =
          solve R (half ∷ a ∷ b ∷ c ∷ d ∷ x ∷ [])
          (λ h a b c d x.
          (a :+ (b :- a) :* x) :* (c :+ (d :- c) :* x)
          := h :* (x :- :1) :* (x :- con 2) :* ((a :+ (b :- a) :* :0) :* (c :+ (d :- c) :* :0))
          :+ x :* (con 2 :- x) :* ((a :+ (b :- a) :* :1) :* (c :+ (d :- c) :* :1))
          :+ h :* x :* (x :- :1) :* ((a :+ (b :- a) :* con 2) :* (c :+ (d :- c) :* con 2))
          given :neg (x :- :1) :* (a :* c :* x :- a :* c :- a :* d :* x :- b :* c :* x :+ con 2 :* b :* d :* x) ⋆ h :* con 2 ≈ :1)
          refl half_two

      pub round_sum-quadratic : (columns m : ℕ) (a b : ℕ → ℕ → A) (x : A) → round_sum columns m a b x
          ≡ quadratic R half (round_sum columns m a b 𝟘) (round_sum columns m a b 𝟙) (round_sum columns m a b (num R 2)) x
      unfolding round_sum pair_sum fold_mle
      round_sum-quadratic columns m a b x =
          sum_cong R columns (λ k.
          sum_cong R m (λ y. lines_quadratic (a k (2 * y)) (a k (2 * y + 1)) (b k (2 * y)) (b k (2 * y + 1)) x) ∙ sum-quadratic m _ _ _ x)
          ∙ sum-quadratic columns _ _ _ x
