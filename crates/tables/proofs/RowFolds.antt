-- The rows of a prism folded at a point: the factors of the rows, and of the rows before them. Document 01: the two tables after the fold at u_0.
use mathlib.Core.Path.{◌≡◌, refl, sym, ◌∙◌, ap, ap₂}
use mathlib.Core.List.{List, [], ◌∷◌}
use Prim.Native.Nat.{ℕ, suc, ◌+◌, ◌*◌, ◌-◌, ◌^◌, ◌<◌}
use native.Mathlib.Omega.{arith}
use Rattle.algebra.specs.Ring.{Ring}
use Rattle.algebra.specs.Sum.{sum}
use Rattle.algebra.specs.Multilinear.{cube_factor}
use Rattle.algebra.proofs.Expression.{◌:+◌, ◌:-◌, ◌:*◌, :neg, ◌:=◌, ◌given◌⋆◌≈◌}
use Rattle.algebra.proofs.Solver.{solve}
use Rattle.algebra.proofs.Sums.{sum_cong_below, sum-mul-right, sum_first}
use Rattle.algebra.proofs.Powers.{two_pow-pos, suc_pred}
use Rattle.tables.specs.Index.{before}
use Rattle.tables.specs.Root.{Skip}
use Rattle.tables.specs.Lagrange.{lagrange}
use Rattle.tables.specs.EqUni.{eq_uni}
use Rattle.tables.specs.Prism.{row_factor}
use Rattle.tables.specs.FoldPle.{fold_ple}
use Rattle.tables.proofs.Indices.{before_inside, before_first}
use Rattle.tables.proofs.LagrangeBasis.{lagrange_turn}
use Rattle.tables.proofs.EqUniValues.{eq_uni_at_one}
use Rattle.tables.proofs.PrismFolds.{row_factor_at}

module _ {A : Type 0} {R : Ring A} {half : A} {l : ℕ} {w : A} (skip : Skip R half l w) (x y : A) (ys : List A) where
  infixl 60 ◌⊕◌ ◌⊖◌
  infixl 70 ◌⊗◌
  open R use {one as 𝟙, add as ◌⊕◌, mul as ◌⊗◌, neg, mul_assoc, mul_comm}

  abbrev ◌⊖◌ : A → A → A
  a ⊖ b = a ⊕ neg b

  abbrev L : ℕ → A → A
  L = lagrange R half l w

  -- entry j of the eq table after the fold
  pub fold_ple-row : (j : ℕ) → fold_ple R half l w (row_factor R half l w y ys) x j ≡ eq_uni R half l w x y ⊗ cube_factor R ys j
  unfolding fold_ple eq_uni
  fold_ple-row j =
      sum_cong_below R (2 ^ l) (λ i h. mul_comm _ _ ∙ ap (λ f. L i x ⊗ f) (row_factor_at R half l w y ys i j h) ∙ sym (mul_assoc _ _ _))
      ∙ sum-mul-right R (2 ^ l) (cube_factor R ys j) (λ i. L i x ⊗ L i y)

  module _ (blocks : ℕ) (some : 0 < blocks) where
    -- the two Lagrange polynomials at i, the second turned
    abbrev pair : ℕ → A
    pair i = L i x ⊗ L i (w ⊗ y)

    -- the summand of row i of block j
    abbrev row : ℕ → ℕ → A
    row j i = row_factor R half l w y ys (before (2 ^ l * blocks) (i + 2 ^ l * j)) ⊗ L i x

    turn : (a b c : A) → a ⊗ b ⊗ c ≡ c ⊗ a ⊗ b
    turn a b c = mul_comm _ _ ∙ sym (mul_assoc _ _ _)

    row_first : (j : ℕ) → row j 0 ≡ pair 0 ⊗ cube_factor R ys (before blocks j)
    unfolding before
    row_first j =
        ap (λ f. f ⊗ L 0 x)
        (ap (row_factor R half l w y ys) (before_first (2 ^ l) blocks j (two_pow-pos l) some)
        ∙ row_factor_at R half l w y ys (2 ^ l - 1) (before blocks j) (omega (arith, two_pow-pos l))
        ∙ ap (λ f. f ⊗ cube_factor R ys (before blocks j)) (sym (lagrange_turn skip 0 y (two_pow-pos l))))
        ∙ turn _ _ _

    row_inside : (j i : ℕ) → suc i < 2 ^ l → row j (suc i) ≡ pair (suc i) ⊗ cube_factor R ys j
    unfolding before
    row_inside j i h =
        ap (λ f. f ⊗ L (suc i) x)
        (ap (row_factor R half l w y ys) (before_inside (2 ^ l) blocks i j) ∙ row_factor_at R half l w y ys i j (omega arith)
        ∙ ap (λ f. f ⊗ cube_factor R ys j) (sym (lagrange_turn skip (suc i) y h)))
        ∙ turn _ _ _

    -- entry j of the rotation table after the fold, of so many blocks
    pub fold_ple-row_before : (j : ℕ)
        → fold_ple R half l w (λ t. row_factor R half l w y ys (before (2 ^ l * blocks) t)) x j
        ≡ eq_uni R half l w x (w ⊗ y) ⊗ cube_factor R ys j
        ⊕ eq_uni R half l w x 𝟙 ⊗ eq_uni R half l w (w ⊗ y) 𝟙 ⊗ (cube_factor R ys (before blocks j) ⊖ cube_factor R ys j)
    unfolding fold_ple eq_uni
    fold_ple-row_before j =
        split (row j)
        ∙ ap₂ ◌⊕◌ (row_first j)
        (sum_cong_below R (2 ^ l - 1) (λ i h. row_inside j i (omega arith)) ∙ sum-mul-right R (2 ^ l - 1) (cube_factor R ys j) (λ i. pair (suc i)))
        ∙ solve R (L 0 x ∷ L 0 (w ⊗ y) ∷ sum R (2 ^ l - 1) (λ i. pair (suc i)) ∷ eq_uni R half l w x (w ⊗ y) ∷ eq_uni R half l w x 𝟙
        ∷ eq_uni R half l w (w ⊗ y) 𝟙 ∷ cube_factor R ys j ∷ cube_factor R ys (before blocks j) ∷ [])
        (λ a b q e c d s r. a :* b :* r :+ q :* s := e :* s :+ c :* d :* (r :- s)
        given :neg s ⋆ e ≈ a :* b :+ q given :neg (d :* (r :- s)) ⋆ c ≈ a given :neg (a :* (r :- s)) ⋆ d ≈ b)
        refl (split pair) (eq_uni_at_one skip x) (eq_uni_at_one skip (w ⊗ y))
      where
        split : (f : ℕ → A) → sum R (2 ^ l) f ≡ f 0 ⊕ sum R (2 ^ l - 1) (λ i. f (suc i))
        split f = ap (λ n. sum R n f) (sym (suc_pred (two_pow-pos l))) ∙ sum_first R (2 ^ l - 1) f
