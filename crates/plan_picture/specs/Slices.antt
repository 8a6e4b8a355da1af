-- Where the part of a slice record of words x and y stands in the picture, and how it is drawn.
use Rattle.std.specs.Prelude.{ℕ, ◌+◌, ◌/◌, ◌%◌, Bool, false, cond, leb}
use Rattle.layout.specs.Packed.{matrix_field, stack_field, row_field}
use Rattle.plan_picture.specs.Fields.{rows_of}
use Rattle.plan_picture.specs.Scale.{bar_width, bar_left, bar_middle, row_top, tall_of}

abbrev pub slice_left : ℕ → ℕ → ℕ
slice_left width x = bar_left width (stack_field x)

abbrev pub slice_middle : ℕ → ℕ → ℕ
slice_middle width x = bar_middle width (stack_field x)

abbrev pub slice_top : ℕ → ℕ → ℕ
slice_top height x = row_top height (row_field x)

abbrev pub slice_tall : ℕ → ℕ → ℕ → ℕ → ℕ
slice_tall l height x y = tall_of height (row_field x) (rows_of l y)

-- the base line of the matrix's number, in the middle
abbrev pub label_base : ℕ → ℕ → ℕ → ℕ → ℕ
label_base l height x y = slice_top height x + slice_tall l height x y / 2 + 4

-- bars are 24 wide at least, and the part is so high
unfoldable pub roomy : ℕ → ℕ → ℕ → Bool
roomy width tall least = cond (leb 24 (bar_width width)) (leb least tall) false

-- a part of 8 has an edge
unfoldable pub edge_of : ℕ → ℕ → ℕ
edge_of width tall = cond (roomy width tall 8) 1 0

-- twelve colours in turn, a dark one and a light one by turns
abbrev pub colour_of : ℕ → ℕ
colour_of x = matrix_field x % 12

-- the number's colour, light on a dark one
abbrev pub shade_of : ℕ → ℕ
shade_of x = matrix_field x % 2
