-- Where things stand in the picture, in pixels from its upper left corner.
use Rattle.std.specs.Prelude.{ℕ, ◌+◌, ◌-◌, ◌*◌, ◌/◌, min, max}

-- a stack column's bar and the gap beside it: 1,120 pixels are shared, and each has 3 to 96
unfoldable pub pitch : ℕ → ℕ
pitch width = max 3 (min 96 (1120 / max 1 width))

abbrev pub bar_width : ℕ → ℕ
bar_width width = pitch width - (1 + pitch width / 8)

-- the left edge of stack column k
abbrev pub bar_left : ℕ → ℕ → ℕ
bar_left width k = 96 + k * pitch width

abbrev pub bar_middle : ℕ → ℕ → ℕ
bar_middle width k = bar_left width k + bar_width width / 2

abbrev pub picture_width : ℕ → ℕ
picture_width width = max 480 (bar_left width width + 16)

-- so many of H rows; a bar's H rows are 512
abbrev pub down : ℕ → ℕ → ℕ
down height rows = rows * 512 / height

-- the upper edge of a row
abbrev pub row_top : ℕ → ℕ → ℕ
row_top height row = 104 + down height row

-- the rows from `row` on; less than a pixel is drawn as one
abbrev pub tall_of : ℕ → ℕ → ℕ → ℕ
tall_of height row rows = max 1 (down height (row + rows) - down height row)
