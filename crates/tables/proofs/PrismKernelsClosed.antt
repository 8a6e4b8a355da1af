-- The kernels of the prism in closed form: eq_uni · eq_mle, and the rotation kernel as `eval_rot_kernel_prism` computes it.
use mathlib.Core.Path.{◌≡◌, refl, ◌∙◌, ap, ap₂, fun_ext}
use mathlib.Core.List.{List, [], ◌∷◌}
use Prim.Native.Nat.{ℕ, ◌*◌, ◌^◌}
use lib.ListN.{length}
use Rattle.algebra.specs.Ring.{Ring}
use Rattle.algebra.specs.Multilinear.{cube_factor, mle}
use Rattle.algebra.proofs.Expression.{◌:+◌, ◌:-◌, ◌:*◌, ◌:=◌}
use Rattle.algebra.proofs.Solver.{solve}
use Rattle.algebra.proofs.Sums.{sum_cong}
use Rattle.algebra.proofs.Powers.{two_pow-pos}
use Rattle.algebra.proofs.Multilinears.{mle-add, mle-mul}
use Rattle.tables.specs.Index.{before}
use Rattle.tables.specs.Root.{Skip}
use Rattle.tables.specs.EqUni.{eq_uni}
use Rattle.tables.specs.EqMle.{eq_mle}
use Rattle.tables.specs.RotCube.{rot_cube}
use Rattle.tables.specs.Prism.{row_factor, prism}
use Rattle.tables.specs.PrismKernels.{eq_prism, rot_prism}
use Rattle.tables.proofs.EqMleSum.{mle-cube_factor}
use Rattle.tables.proofs.PrismFolds.{prism_fold}
use Rattle.tables.proofs.RowFolds.{fold_ple-row, fold_ple-row_before}

module _ {A : Type 0} (R : Ring A) (half : A) (l : ℕ) (w : A) where
  -- the kernels are the polynomials through the other point's row factors
  pub eq_prism-prism : (x : A) (xs : List A) (y : A) (ys : List A) → eq_prism R half l w x xs y ys ≡ prism R half l w (row_factor R half l w y ys) x xs
  unfolding eq_prism prism
  eq_prism-prism x xs y ys = sum_cong R (2 ^ l * 2 ^ length xs) (λ t. R.mul_comm _ _)

  pub rot_prism-prism : (x : A) (xs : List A) (y : A) (ys : List A)
      → rot_prism R half l w x xs y ys ≡ prism R half l w (λ t. row_factor R half l w y ys (before (2 ^ l * 2 ^ length xs) t)) x xs
  unfolding rot_prism prism
  rot_prism-prism x xs y ys = sum_cong R (2 ^ l * 2 ^ length xs) (λ t. R.mul_comm _ _)

module _ {A : Type 0} {R : Ring A} {half : A} {l : ℕ} {w : A} (skip : Skip R half l w) (x : A) (xs : List A) (y : A) (ys : List A) (same : length xs ≡ length ys) where
  infixl 60 ◌⊕◌ ◌⊖◌
  infixl 70 ◌⊗◌
  open R use {one as 𝟙, add as ◌⊕◌, mul as ◌⊗◌, neg, mul_comm}

  abbrev ◌⊖◌ : A → A → A
  a ⊖ b = a ⊕ neg b

  pub eq_prism_closed : eq_prism R half l w x xs y ys ≡ eq_uni R half l w x y ⊗ eq_mle R xs ys
  eq_prism_closed =
      eq_prism-prism R half l w x xs y ys ∙ prism_fold R half l w (row_factor R half l w y ys) x xs
      ∙ ap (λ t. mle R t xs) (fun_ext (fold_ple-row skip x y ys)) ∙ mle-mul R (eq_uni R half l w x y) (cube_factor R ys) xs
      ∙ ap (λ e. eq_uni R half l w x y ⊗ e) (mle-cube_factor R xs ys same)

  -- the polynomial through the rotated table
  mle-rotated : mle R (λ j. cube_factor R ys (before (2 ^ length xs) j)) xs ≡ rot_cube R xs ys
  unfolding mle rot_cube
  mle-rotated = sum_cong R (2 ^ length xs) (λ i. mul_comm _ _)

  -- the kernel inside the blocks, and from a block's first row to the last of the block before
  abbrev turned : A
  turned = eq_uni R half l w x (w ⊗ y)

  abbrev ends : A
  ends = eq_uni R half l w x 𝟙 ⊗ eq_uni R half l w (w ⊗ y) 𝟙

  pub rot_prism_closed : rot_prism R half l w x xs y ys
      ≡ eq_uni R half l w x (w ⊗ y) ⊗ eq_mle R xs ys ⊕ eq_uni R half l w x 𝟙 ⊗ eq_uni R half l w (w ⊗ y) 𝟙 ⊗ (rot_cube R xs ys ⊖ eq_mle R xs ys)
  rot_prism_closed =
      rot_prism-prism R half l w x xs y ys
      ∙ prism_fold R half l w (λ t. row_factor R half l w y ys (before (2 ^ l * blocks) t)) x xs
      ∙ ap (λ t. mle R t xs) (fun_ext (λ j. fold_ple-row_before skip x y ys blocks (two_pow-pos (length xs)) j ∙ regroup j))
      ∙ mle-add R (λ j. (turned ⊖ ends) ⊗ cube_factor R ys j) (λ j. ends ⊗ cube_factor R ys (before blocks j)) xs
      ∙ ap₂ ◌⊕◌
      (mle-mul R (turned ⊖ ends) (cube_factor R ys) xs ∙ ap (λ e. (turned ⊖ ends) ⊗ e) (mle-cube_factor R xs ys same))
      (mle-mul R ends (λ j. cube_factor R ys (before blocks j)) xs ∙ ap (λ r. ends ⊗ r) mle-rotated)
      ∙ solve R (turned ∷ ends ∷ eq_mle R xs ys ∷ rot_cube R xs ys ∷ []) (λ t e m r. (t :- e) :* m :+ e :* r := t :* m :+ e :* (r :- m)) refl
    where
      blocks : ℕ
      blocks = 2 ^ length xs

      regroup : (j : ℕ) → turned ⊗ cube_factor R ys j ⊕ ends ⊗ (cube_factor R ys (before blocks j) ⊖ cube_factor R ys j)
          ≡ (turned ⊖ ends) ⊗ cube_factor R ys j ⊕ ends ⊗ cube_factor R ys (before blocks j)
      regroup j =
          solve R (turned ∷ ends ∷ cube_factor R ys j ∷ cube_factor R ys (before blocks j) ∷ []) (λ t e d b. t :* d :+ e :* (b :- d) := (t :- e) :* d :+ e :* b) refl
