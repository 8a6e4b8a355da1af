-- A matrix of a list as it lies in the stacked matrix: its columns, its rows, and their stride; and its view.
use Rattle.std.specs.Prelude.{ℕ, ◌^◌, ◌≡◌, List, Result, MatchResult}
use Rattle.field.specs.declared.answer.Refusal.{Refusal}
use Rattle.field.specs.Number.{settled}
use Rattle.std.specs.declared.result.Result.TheVariants.{Ok, Err}
use Rattle.layout.specs.Triples.{width_at, log_at}
use Rattle.layout.specs.Stacked.{stride_of}
use Rattle.layout.specs.Viewing.{view_number, view_of}
use Rattle.views.specs.declared.matrix.StridedColMajorMatrixView.{StridedColMajorMatrixView}
use Rattle.views.specs.declared.stacked_pcs.MatShape.{MatShape}

abbrev pub shaped : ℕ → ℕ → ℕ → MatShape
shaped width height stride = record { width = width; height = height; stride = stride }

abbrev pub laid_shape : ℕ → List ℕ → ℕ → MatShape
laid_shape l list i = shaped (width_at list i) (2 ^ log_at list i) (stride_of l (log_at list i))

-- 1, 2, 4, 5, 6, 9, 10 and 11 by `view_number`
unfoldable pub shape_of : ℕ → ℕ → List ℕ → List ℕ → ℕ → Result MatShape Refusal
shape_of l n list stacked i = settled (view_number l n list stacked i) (laid_shape l list i)

-- v is the view of matrix i: its part of the stacked matrix, and the shape
pub record IsView (l n : ℕ) (list stacked : List ℕ) (i : ℕ) (v : StridedColMajorMatrixView) : Type 0 where
  pub part : v.values.now ≡ view_of l n list stacked i
  pub shape : shape_of l n list stacked i ≡ Ok (shaped v.width v.height v.stride)

-- r is that view, or refused as the shape is
abbrev pub Viewed : ℕ → ℕ → List ℕ → List ℕ → ℕ → Result StridedColMajorMatrixView Refusal → Type 0
Viewed l n list stacked i r = MatchResult r (IsView l n list stacked i) (λ e. shape_of l n list stacked i ≡ Err e)
