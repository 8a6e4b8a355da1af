-- The rows of a column folded at a point: 2^h powers at stride 2^d in blocks of 2^(h+d) rows, of which the column takes 2^m. Long columns are d = 0,
-- short ones m = 0; the law is one.
use mathlib.Core.Path.{◌≡◌, refl, ◌∙◌, ap, ap₂, fun_ext}
use mathlib.Core.List.{List, [], ◌∷◌}
use Prim.Native.Nat.{ℕ, ◌+◌, ◌*◌, ◌^◌}
use Rattle.algebra.specs.Ring.{Ring, pow}
use Rattle.algebra.specs.Multilinear.{cube_factor}
use Rattle.algebra.proofs.Powers.{two_pow-pos}
use Rattle.algebra.proofs.Expression.{◌:+◌, ◌:*◌, ◌:=◌}
use Rattle.algebra.proofs.Solver.{solve}
use Rattle.tables.specs.Index.{before}
use Rattle.tables.specs.Root.{Skip}
use Rattle.tables.specs.EqUni.{eq_uni}
use Rattle.tables.specs.InUni.{in_uni}
use Rattle.tables.specs.Prism.{row_factor}
use Rattle.tables.specs.FoldPle.{fold_ple}
use Rattle.tables.specs.AtStride.{at_stride}
use Rattle.tables.specs.Window.{window}
use Rattle.tables.proofs.PrismFolds.{fold_ple-add, fold_ple-mul}
use Rattle.tables.proofs.RowFolds.{fold_ple-row, fold_ple-row_before}
use Rattle.tables.proofs.ShortColumns.{skip_rows}
use Rattle.tables.proofs.StrideFolds.{fold_ple-at_stride}
use Rattle.tables.proofs.WindowFolds.{fold_ple-window}

module _ {A : Type 0} {R : Ring A} {half w : A} (h d : ℕ) (skip : Skip R half (h + d) w) (m : ℕ) (u y : A) (ys : List A) (a b : A) where
  infixl 60 ◌⊕◌ ◌⊖◌
  infixl 70 ◌⊗◌
  open R use {one as 𝟙, add as ◌⊕◌, mul as ◌⊗◌, neg}

  abbrev ◌⊖◌ : A → A → A
  p ⊖ q = p ⊕ neg q

  -- the raised generator
  abbrev v : A
  v = pow R w (2 ^ d)

  -- a times the factor of row t, plus b times that of the row before
  abbrev pub rows : ℕ → A
  rows t = a ⊗ row_factor R half h v y ys t ⊕ b ⊗ row_factor R half h v y ys (before (2 ^ h * 2 ^ m) t)

  -- entry x of what a fold at u leaves of the rows before
  abbrev pub turned : ℕ → A
  turned x =
      eq_uni R half h v u (v ⊗ y) ⊗ cube_factor R ys x
      ⊕ eq_uni R half h v u 𝟙 ⊗ eq_uni R half h v (v ⊗ y) 𝟙 ⊗ (cube_factor R ys (before (2 ^ m) x) ⊖ cube_factor R ys x)

  -- and of both
  abbrev pub entry : ℕ → A
  entry x =
      a ⊗ (in_uni R half h d w u ⊗ eq_uni R half h v u y ⊗ cube_factor R ys x)
      ⊕ b ⊗ (in_uni R half h d w u ⊗ turned x)

  fold_ple-rows : (x : ℕ) → fold_ple R half h v rows u x ≡ a ⊗ (eq_uni R half h v u y ⊗ cube_factor R ys x) ⊕ b ⊗ turned x
  fold_ple-rows x =
      fold_ple-add R half h v (λ t. a ⊗ plain t) (λ t. b ⊗ previous t) u x
      ∙ ap₂ ◌⊕◌
      (fold_ple-mul R half h v a plain u x ∙ ap (λ e. a ⊗ e) (fold_ple-row (skip_rows h d skip) u y ys x))
      (fold_ple-mul R half h v b previous u x ∙ ap (λ e. b ⊗ e) (fold_ple-row_before (skip_rows h d skip) u y ys (2 ^ m) (two_pow-pos m) x))
    where
      plain : ℕ → A
      plain = row_factor R half h v y ys

      previous : ℕ → A
      previous t = row_factor R half h v y ys (before (2 ^ h * 2 ^ m) t)

  pub fold_ple-column : (p : ℕ)
      → fold_ple R half (h + d) w (window R (2 ^ (h + d) * p) (2 ^ (h + d) * 2 ^ m) (at_stride R (2 ^ d) rows)) u ≡ window R p (2 ^ m) entry
  fold_ple-column p =
      fold_ple-window R half (h + d) w p (2 ^ m) (at_stride R (2 ^ d) rows) u
      ∙ ap (window R p (2 ^ m)) (fun_ext (λ x.
      fold_ple-at_stride h d skip rows u x ∙ ap (λ s. in_uni R half h d w u ⊗ s) (fold_ple-rows x)
      ∙ solve R (a ∷ b ∷ in_uni R half h d w u ∷ eq_uni R half h v u y ∷ cube_factor R ys x ∷ turned x ∷ [])
      (λ a b i e c r. i :* (a :* (e :* c) :+ b :* r) := a :* (i :* e :* c) :+ b :* (i :* r)) refl))
