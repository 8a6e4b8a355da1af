-- The polynomial through the rows of a prism: its value by folds, its values at the rows, and that it is linear in the rows.
use mathlib.Core.Path.{◌≡◌, sym, ◌∙◌, ap, ap₂, fun_ext}
use mathlib.Core.List.{List}
use Prim.Native.Nat.{ℕ, ◌+◌, ◌*◌, ◌^◌, ◌<◌}
use native.Mathlib.Omega.{arith}
use lib.ListN.{length}
use Rattle.algebra.specs.Ring.{Ring, pow}
use Rattle.algebra.specs.Sum.{sum}
use Rattle.algebra.specs.Multilinear.{cube_factor, mle, bits}
use Rattle.algebra.proofs.RingLaws as Laws
use Rattle.algebra.proofs.Sums.{sum_cong, sum_cong_below, sum-add, sum-mul, sum-mul-right, sum_grid, sum_delta}
use Rattle.algebra.proofs.Multilinears.{mle-add, mle-mul}
use Rattle.tables.specs.Root.{Skip}
use Rattle.tables.specs.Lagrange.{lagrange}
use Rattle.tables.specs.EqUni.{eq_uni}
use Rattle.tables.specs.Prism.{row_factor, prism}
use Rattle.tables.specs.FoldPle.{fold_ple}
use Rattle.tables.proofs.Indices.{grid_mod, grid_div}
use Rattle.tables.proofs.LagrangeBasis.{lagrange_same, lagrange_other}
use Rattle.tables.proofs.EqUniValues.{eq_uni_at_power}
use Rattle.algebra.proofs.Corners.{mle-corner}

module _ {A : Type 0} (R : Ring A) (half : A) (l : ℕ) (w : A) where
  infixl 60 ◌⊕◌
  infixl 70 ◌⊗◌
  open R use {add as ◌⊕◌, mul as ◌⊗◌, mul_assoc}

  abbrev L : ℕ → A → A
  L = lagrange R half l w

  pub row_factor_at : (z : A) (xs : List A) (i j : ℕ) → i < 2 ^ l → row_factor R half l w z xs (i + 2 ^ l * j) ≡ L i z ⊗ cube_factor R xs j
  unfolding row_factor
  row_factor_at z xs i j h = ap₂ (λ a b. L a z ⊗ cube_factor R xs b) (grid_mod (2 ^ l) i j h) (grid_div (2 ^ l) i j h)

  -- first the fold at z, then the polynomial through the table that it leaves
  pub prism_fold : (v : ℕ → A) (z : A) (xs : List A) → prism R half l w v z xs ≡ mle R (fold_ple R half l w v z) xs
  unfolding prism fold_ple mle
  prism_fold v z xs =
      sum_grid R (2 ^ l) (2 ^ length xs) (λ t. v t ⊗ row_factor R half l w z xs t)
      ∙ sum_cong R (2 ^ length xs) (λ j.
      sum_cong_below R (2 ^ l) (λ i h. ap (λ f. v (i + 2 ^ l * j) ⊗ f) (row_factor_at z xs i j h) ∙ sym (mul_assoc _ _ _))
      ∙ sum-mul-right R (2 ^ l) (cube_factor R xs j) (λ i. v (i + 2 ^ l * j) ⊗ L i z))

  pub fold_ple-add : (u v : ℕ → A) (z : A) (y : ℕ) → fold_ple R half l w (λ t. u t ⊕ v t) z y ≡ fold_ple R half l w u z y ⊕ fold_ple R half l w v z y
  unfolding fold_ple
  fold_ple-add u v z y =
      sum_cong R (2 ^ l) (λ i. Laws.add-mul R (u (i + 2 ^ l * y)) (v (i + 2 ^ l * y)) (L i z))
      ∙ sum-add R (2 ^ l) (λ i. u (i + 2 ^ l * y) ⊗ L i z) (λ i. v (i + 2 ^ l * y) ⊗ L i z)

  pub fold_ple-mul : (c : A) (v : ℕ → A) (z : A) (y : ℕ) → fold_ple R half l w (λ t. c ⊗ v t) z y ≡ c ⊗ fold_ple R half l w v z y
  unfolding fold_ple
  fold_ple-mul c v z y = sum_cong R (2 ^ l) (λ i. mul_assoc c (v (i + 2 ^ l * y)) (L i z)) ∙ sum-mul R (2 ^ l) c (λ i. v (i + 2 ^ l * y) ⊗ L i z)

  pub prism-add : (u v : ℕ → A) (z : A) (xs : List A) → prism R half l w (λ t. u t ⊕ v t) z xs ≡ prism R half l w u z xs ⊕ prism R half l w v z xs
  prism-add u v z xs =
      prism_fold (λ t. u t ⊕ v t) z xs ∙ ap (λ t. mle R t xs) (fun_ext (fold_ple-add u v z)) ∙ mle-add R (fold_ple R half l w u z) (fold_ple R half l w v z) xs
      ∙ sym (ap₂ ◌⊕◌ (prism_fold u z xs) (prism_fold v z xs))

  pub prism-mul : (c : A) (v : ℕ → A) (z : A) (xs : List A) → prism R half l w (λ t. c ⊗ v t) z xs ≡ c ⊗ prism R half l w v z xs
  prism-mul c v z xs =
      prism_fold (λ t. c ⊗ v t) z xs ∙ ap (λ t. mle R t xs) (fun_ext (fold_ple-mul c v z)) ∙ mle-mul R c (fold_ple R half l w v z) xs
      ∙ ap (λ s. c ⊗ s) (sym (prism_fold v z xs))

module _ {A : Type 0} {R : Ring A} {half : A} {l : ℕ} {w : A} (skip : Skip R half l w) where
  infixl 70 ◌⊗◌
  open R use {mul as ◌⊗◌, mul_one}

  -- the fold as a sum of kernels, which needs no division and holds at every z
  pub fold_ple_kernels : (v : ℕ → A) (z : A) (y : ℕ) → fold_ple R half l w v z y ≡ sum R (2 ^ l) (λ i. v (i + 2 ^ l * y) ⊗ eq_uni R half l w z (pow R w i))
  unfolding fold_ple
  fold_ple_kernels v z y = sum_cong_below R (2 ^ l) (λ i h. ap (λ x. v (i + 2 ^ l * y) ⊗ x) (sym (eq_uni_at_power skip z i h)))

  -- folding at a power picks a row of each block
  pub fold_ple_at_power : (v : ℕ → A) (i y : ℕ) → i < 2 ^ l → fold_ple R half l w v (pow R w i) y ≡ v (i + 2 ^ l * y)
  unfolding fold_ple
  fold_ple_at_power v i y h =
      sum_delta R (2 ^ l) (λ j. v (j + 2 ^ l * y) ⊗ lagrange R half l w j (pow R w i)) i h
      (λ j s ne. ap (λ x. v (j + 2 ^ l * y) ⊗ x) (lagrange_other skip j i s h ne) ∙ Laws.mul-zero R _)
      ∙ ap (λ x. v (i + 2 ^ l * y) ⊗ x) (lagrange_same skip i (omega arith)) ∙ mul_one _

  -- the polynomial has the rows' values
  pub prism_at_row : (v : ℕ → A) (n i y : ℕ) → i < 2 ^ l → y < 2 ^ n → prism R half l w v (pow R w i) (bits R n y) ≡ v (i + 2 ^ l * y)
  prism_at_row v n i y h s =
      prism_fold R half l w v (pow R w i) (bits R n y) ∙ mle-corner R (fold_ple R half l w v (pow R w i)) n y s ∙ fold_ple_at_power v i y h
