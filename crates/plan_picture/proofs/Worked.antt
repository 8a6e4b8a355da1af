-- The picture's definitions on document 01's example and on other plans, computed.
use Prim.Native.Nat.{ℕ}
use mathlib.Core.Path.{◌≡◌, refl}
use mathlib.Core.Bool.{Bool, true, false}
use mathlib.Core.List.{List, [], ◌∷◌}
use Rattle.layout.specs.Placing.{slice_length}
use Rattle.layout.specs.Packed.{matrix_field, column_field, stack_field, row_field}
use Rattle.plan_picture.specs.Fields.{last_row, trace_height}
use Rattle.plan_picture.specs.Scale.{pitch, bar_width, bar_left, picture_width, row_top, tall_of}
use Rattle.plan_picture.specs.Share.{used_cells, used_share}
use Rattle.plan_picture.specs.Slices.{roomy, edge_of}
use Rattle.plan_picture.specs.Parts.{bar_numbered}

-- the records of document 01's example
abbrev example : List ℕ
example = 0x0000000000000000 ∷ 0x1000000000000000 ∷ 0x0001000001000000 ∷ 0x0000000000000000 ∷ 0x0001001001000002 ∷ 0x0000000000000000 ∷ []

-- the last of them: matrix 1, column 1, in stack column 1 from row 2 to row 3, a trace column of one row
fields : ◌≡◌ {A = List ℕ} (matrix_field 0x0001001001000002 ∷ column_field 0x0001001001000002 ∷ stack_field 0x0001001001000002 ∷ row_field 0x0001001001000002 ∷ last_row 1 0x0001001001000002 0 ∷ trace_height 0 ∷ [])
    (1 ∷ 1 ∷ 1 ∷ 2 ∷ 3 ∷ 1 ∷ [])
unfolding slice_length
fields = refl

-- all 8 cells are used; of 128 cells 116 are 90 in 100, and 127 are 99; no cells are 0
used : used_cells 1 example 3 ≡ 8
unfolding used_cells slice_length
used = refl

shares : ◌≡◌ {A = List ℕ} (used_share 8 8 ∷ used_share 116 128 ∷ used_share 127 128 ∷ used_share 0 0 ∷ []) (100 ∷ 90 ∷ 99 ∷ 0 ∷ [])
unfolding used_share
shares = refl

-- bars for stack widths 0, 4, 75 and 4,096
bars : ◌≡◌ {A = List ℕ} (bar_width 0 ∷ bar_width 4 ∷ bar_width 75 ∷ bar_width 4096 ∷ []) (83 ∷ 83 ∷ 12 ∷ 2 ∷ [])
unfolding pitch
bars = refl

widths : ◌≡◌ {A = List ℕ} (picture_width 0 ∷ picture_width 4 ∷ picture_width 4096 ∷ bar_left 4096 4095 ∷ []) (480 ∷ 496 ∷ 12400 ∷ 12381 ∷ [])
unfolding pitch
widths = refl

-- of 4 rows, rows 2 and 3; of 2^24, one row
rows : ◌≡◌ {A = List ℕ} (row_top 4 2 ∷ tall_of 4 2 2 ∷ row_top 16777216 16777215 ∷ tall_of 16777216 16777215 1 ∷ []) (360 ∷ 256 ∷ 615 ∷ 1 ∷ [])
rows = refl

-- numbers and edges where there is room
rooms : ◌≡◌ {A = List Bool} (bar_numbered 4 3 ∷ bar_numbered 75 3 ∷ bar_numbered 75 16 ∷ roomy 4 14 14 ∷ roomy 4 13 14 ∷ roomy 75 512 14 ∷ []) (true ∷ false ∷ true ∷ true ∷ false ∷ false ∷ [])
unfolding bar_numbered roomy pitch
rooms = refl

edges : ◌≡◌ {A = List ℕ} (edge_of 4 8 ∷ edge_of 4 7 ∷ []) (1 ∷ 0 ∷ [])
unfolding edge_of roomy pitch
edges = refl
