-- The texts of the picture's parts: a bar for each stack column, and in the bars a part for each slice record of words x and y.
use Rattle.std.specs.Prelude.{ℕ, zero, suc, ◌%◌, Bool, true, cond, List, [], ◌∷◌, ◌++◌, leb, ltb, eqb}
use Rattle.text.specs.Template.{bytes_of, instance_of}
use Rattle.layout.specs.Packed.{matrix_field, column_field, stack_field, row_field, log_field}
use Rattle.plan_picture.specs.Fields.{last_row, trace_height}
use Rattle.plan_picture.specs.Scale.{pitch, bar_width, bar_left, bar_middle}
use Rattle.plan_picture.specs.Slices.{slice_left, slice_middle, slice_top, slice_tall, label_base, roomy, edge_of, colour_of, shade_of}
use Rattle.plan_picture.specs.Texts.{bar_text, bar_number_text, part_text, stripes_text, label_text, part_end_text}

-- every bar has its number where that has room, and else every sixteenth
unfoldable pub bar_numbered : ℕ → ℕ → Bool
bar_numbered width k = cond (leb 24 (pitch width)) true (eqb (k % 16) 0)

unfoldable pub bar_of : ℕ → ℕ → List ℕ
bar_of width k = instance_of (bytes_of bar_text) (bar_left width k ∷ bar_width width ∷ [])

unfoldable pub bar_number_of : ℕ → ℕ → List ℕ
bar_number_of width k = instance_of (bytes_of bar_number_text) (bar_middle width k ∷ k ∷ [])

unfoldable pub bar_at : ℕ → ℕ → List ℕ
bar_at width k = bar_of width k ++ cond (bar_numbered width k) (bar_number_of width k) []

unfoldable pub part_of : ℕ → ℕ → ℕ → ℕ → ℕ → List ℕ
part_of l width height x y =
    instance_of (bytes_of part_text)
    (matrix_field x ∷ column_field x ∷ trace_height y ∷ stack_field x ∷ row_field x ∷ last_row l x y ∷ colour_of x ∷ edge_of width (slice_tall l height x y)
    ∷ slice_left width x ∷ slice_top height x ∷ bar_width width ∷ slice_tall l height x y ∷ [])

-- a column below 2^l_skip rows is striped
unfoldable pub stripes_of : ℕ → ℕ → ℕ → ℕ → ℕ → List ℕ
stripes_of l width height x y =
    cond (ltb (log_field y) l)
    (instance_of (bytes_of stripes_text) (slice_left width x ∷ slice_top height x ∷ bar_width width ∷ slice_tall l height x y ∷ []))
    []

-- a part of 14 has its matrix's number
unfoldable pub label_of : ℕ → ℕ → ℕ → ℕ → ℕ → List ℕ
label_of l width height x y =
    cond (roomy width (slice_tall l height x y) 14)
    (instance_of (bytes_of label_text) (shade_of x ∷ slice_middle width x ∷ label_base l height x y ∷ matrix_field x ∷ []))
    []

unfoldable pub drawn_slice : ℕ → ℕ → ℕ → ℕ → ℕ → List ℕ
drawn_slice l width height x y = part_of l width height x y ++ stripes_of l width height x y ++ label_of l width height x y ++ bytes_of part_end_text

-- f 0, f 1, .. f (k − 1), one after the other
unfoldable pub in_turn : (ℕ → List ℕ) → ℕ → List ℕ
in_turn f zero = []
in_turn f (suc k) = in_turn f k ++ f k
