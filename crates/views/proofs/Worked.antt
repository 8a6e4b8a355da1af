-- Each call of this crate on an accepted and a refused input, computed through its definition: the second matrix of document 01's example, two
-- columns of one row at stride 2.
use Prim.Native.Nat.{ℕ}
use mathlib.Core.Path.{◌≡◌, refl}
use mathlib.Core.List.{List, [], ◌∷◌}
use Rattle.field.specs.Slice.{canonical_words}
use Rattle.field.specs.declared.answer.Refusal.{Refusal}
use Rattle.std.specs.declared.result.Result.{Result}
use Rattle.field.specs.declared.answer.Refusal.TheVariants.{LimitExceeded, TooManyColumns, LayoutHeightExceeded, LayoutRowOverflow, HeightsRise, WrongLength, NotCanonical, NoSuchColumn}
use Rattle.std.specs.declared.result.Result.TheVariants.{Ok, Err}
use Rattle.field.specs.Number.{refusals, refusal_of, settled}
use Rattle.layout.specs.Checks.{refuse, or_else, first_of}
use Rattle.layout.specs.Triples.{columns_before}
use Rattle.layout.specs.Placing.{slice_length, round_up, opened, matrix_length, matrix_start}
use Rattle.layout.specs.Refusals.{limits_number, flag_number, columns_in, width_number, column_number, matrix_number, place_number, higher_number, rise_number, laid_number, shape_number, plan_number, triple_number}
use Rattle.layout.specs.Viewing.{view_number, view_of}
use Rattle.views.specs.declared.stacked_pcs.MatShape.{MatShape}
use Rattle.views.specs.Strided.{height_of, has_cell, cell_of}
use Rattle.views.specs.Shapes.{shaped, shape_of}

abbrev values : List ℕ
values = 9 ∷ 0 ∷ 3 ∷ 0 ∷ []

abbrev stacked : List ℕ
stacked = 5 ∷ 6 ∷ 7 ∷ 8 ∷ 9 ∷ 0 ∷ 3 ∷ 0 ∷ []

abbrev list : List ℕ
list = 1 ∷ 2 ∷ 0 ∷ 2 ∷ 0 ∷ 1 ∷ []

-- `height_of` and the height that `new` keeps: one row; none where a word is left over, and none at width 0
heights : ◌≡◌ {A = List ℕ} (height_of 4 2 2 ∷ height_of 5 2 2 ∷ height_of 4 0 2 ∷ []) (1 ∷ 0 ∷ 0 ∷ [])
unfolding height_of
heights = refl

-- `cell_at` and `get`: the second column's cell, a row and a column that there are not, and a height that the slice does not reach
cells : ◌≡◌ {A = List (Result ℕ Refusal)} (cell_of values 2 1 2 0 1 ∷ cell_of values 2 1 2 1 0 ∷ cell_of values 2 1 2 0 2 ∷ cell_of values 2 9 2 8 1 ∷ [])
    (Ok 3 ∷ Err NoSuchColumn ∷ Err NoSuchColumn ∷ Err NoSuchColumn ∷ [])
unfolding cell_of has_cell
cells = refl

-- `mat_shape` and `mat_view`: of the second matrix, and refused by 1, 2, 4, 5, 6, 9, 10 and 11
shapes : ◌≡◌ {A = List (Result MatShape Refusal)} (
    shape_of 1 1 list stacked 1 ∷ shape_of 11 1 list stacked 1 ∷ shape_of 1 1 (4097 ∷ 0 ∷ 0 ∷ []) stacked 0 ∷ shape_of 1 1 (1 ∷ 3 ∷ 0 ∷ []) stacked 0
    ∷ shape_of 0 3 (1 ∷ 2 ∷ 0 ∷ 1 ∷ 3 ∷ 0 ∷ []) stacked 0 ∷ shape_of 0 2 (1 ∷ 0 ∷ 0 ∷ 1 ∷ 1 ∷ 0 ∷ []) stacked 0 ∷ shape_of 1 1 list values 1
    ∷ shape_of 1 1 list (2013265921 ∷ 6 ∷ 7 ∷ 8 ∷ 9 ∷ 0 ∷ 3 ∷ 0 ∷ []) 1 ∷ shape_of 1 1 list stacked 2 ∷ []
    )
    (
    Ok (shaped 2 1 2) ∷ Err LimitExceeded ∷ Err TooManyColumns ∷ Err LayoutHeightExceeded ∷ Err LayoutRowOverflow ∷ Err HeightsRise
    ∷ Err WrongLength ∷ Err NotCanonical ∷ Err NoSuchColumn ∷ []
    )
unfolding canonical_words refuse or_else first_of columns_before slice_length round_up opened matrix_length matrix_start limits_number flag_number columns_in width_number column_number matrix_number place_number higher_number
    rise_number laid_number shape_number plan_number triple_number view_number refusals refusal_of settled shape_of
shapes = refl

viewed : ◌≡◌ {A = List (List ℕ)} (view_of 1 1 list stacked 1 ∷ view_of 1 1 list stacked 2 ∷ []) (values ∷ [] ∷ [])
unfolding canonical_words refuse or_else first_of columns_before slice_length round_up opened matrix_length matrix_start limits_number flag_number columns_in width_number column_number matrix_number place_number higher_number
    rise_number laid_number shape_number plan_number triple_number view_number view_of
viewed = refl
