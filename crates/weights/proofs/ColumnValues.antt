-- The rows of a placed column as a polynomial, all variables put: the kernels of its own prism, times the indicator, times the factor of its place.
use mathlib.Core.Path.{◌≡◌, sym, ◌∙◌, ap, ap₂, fun_ext}
use mathlib.Core.List.{List, ◌++◌}
use Prim.Native.Nat.{ℕ, ◌+◌, ◌*◌, ◌^◌, ◌<◌}
use lib.ListN.{length}
use Rattle.algebra.specs.Ring.{Ring, pow}
use Rattle.algebra.specs.Multilinear.{cube_factor, mle, bits}
use Rattle.algebra.proofs.Multilinears.{mle-mul}
use Rattle.tables.specs.Index.{before}
use Rattle.tables.specs.Root.{Skip}
use Rattle.tables.specs.EqMle.{eq_mle}
use Rattle.tables.specs.InUni.{in_uni}
use Rattle.tables.specs.Prism.{row_factor, prism}
use Rattle.tables.specs.PrismKernels.{eq_prism, rot_prism}
use Rattle.tables.specs.FoldPle.{fold_ple}
use Rattle.tables.specs.AtStride.{at_stride}
use Rattle.tables.specs.Window.{window}
use Rattle.algebra.proofs.Corners.{length-bits, mle-corner, mle-cube_factor_comm}
use Rattle.tables.proofs.EqMleSum.{mle-cube_factor}
use Rattle.tables.proofs.PrismFolds.{prism_fold, prism-add, prism-mul}
use Rattle.tables.proofs.PrismKernelsClosed.{eq_prism-prism, rot_prism-prism}
use Rattle.tables.proofs.StrideFolds.{fold_ple-at_stride}
use Rattle.tables.proofs.WindowFolds.{prism-window}

-- the factor of a corner is the eq kernel with its bits
pub cube_factor-bits : {A : Type 0} (R : Ring A) (xs : List A) (n i : ℕ) → length xs ≡ n → i < 2 ^ n → cube_factor R xs i ≡ eq_mle R xs (bits R n i)
cube_factor-bits R xs n i e h =
    sym (mle-corner R (cube_factor R xs) n i h) ∙ mle-cube_factor_comm R (bits R n i) xs (length-bits R n i ∙ sym e)
    ∙ mle-cube_factor R xs (bits R n i) (e ∙ sym (length-bits R n i))

module _ {A : Type 0} {R : Ring A} {half w : A} (h d : ℕ) (skip : Skip R half (h + d) w) (u : A) (xs zs : List A) (y : A) (ys : List A) (a b : A) where
  infixl 60 ◌⊕◌
  infixl 70 ◌⊗◌
  open R use {add as ◌⊕◌, mul as ◌⊗◌}

  -- the raised generator
  abbrev v : A
  v = pow R w (2 ^ d)

  abbrev plain : ℕ → A
  plain = row_factor R half h v y ys

  abbrev previous : ℕ → A
  previous t = row_factor R half h v y ys (before (2 ^ h * 2 ^ length xs) t)

  -- a times the factor of row t, plus b times that of the row before
  abbrev rows : ℕ → A
  rows t = a ⊗ plain t ⊕ b ⊗ previous t

  pub prism-rows : prism R half h v rows u xs ≡ a ⊗ eq_prism R half h v u xs y ys ⊕ b ⊗ rot_prism R half h v u xs y ys
  prism-rows =
      prism-add R half h v (λ t. a ⊗ plain t) (λ t. b ⊗ previous t) u xs
      ∙ ap₂ ◌⊕◌
      (prism-mul R half h v a plain u xs ∙ ap (λ e. a ⊗ e) (sym (eq_prism-prism R half h v u xs y ys)))
      (prism-mul R half h v b previous u xs ∙ ap (λ e. b ⊗ e) (sym (rot_prism-prism R half h v u xs y ys)))

  pub prism-column : (p : ℕ) → p < 2 ^ length zs
      → prism R half (h + d) w (window R (2 ^ (h + d) * (2 ^ length xs * p)) (2 ^ (h + d) * 2 ^ length xs) (at_stride R (2 ^ d) rows)) u (xs ++ zs)
      ≡ in_uni R half h d w u ⊗ (a ⊗ eq_prism R half h v u xs y ys ⊕ b ⊗ rot_prism R half h v u xs y ys) ⊗ cube_factor R zs p
  prism-column p s =
      prism-window R half (h + d) w xs zs p (at_stride R (2 ^ d) rows) u s
      ∙ ap (λ m. m ⊗ cube_factor R zs p)
      (prism_fold R half (h + d) w (at_stride R (2 ^ d) rows) u xs ∙ ap (λ t. mle R t xs) (fun_ext (fold_ple-at_stride h d skip rows u))
      ∙ mle-mul R (in_uni R half h d w u) (fold_ple R half h v rows u) xs
      ∙ ap (λ m. in_uni R half h d w u ⊗ m) (sym (prism_fold R half h v rows u xs) ∙ prism-rows))
