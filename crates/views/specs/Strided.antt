-- A column-major matrix whose rows stand a stride apart: where the word at a row and a column stands, and what a reader gives.
use Rattle.std.specs.Prelude.{Result, ℕ, ◌+◌, ◌*◌, ◌/◌, ◌%◌, Bool, cond, ◌&&◌, List, length, get_or, ltb, eqb}
use Rattle.std.specs.declared.result.Result.TheVariants.{Ok, Err}
use Rattle.field.specs.declared.answer.Refusal.{Refusal}
use Rattle.field.specs.declared.answer.Refusal.TheVariants.{NoSuchColumn}

-- the rows of n words as columns of this width and stride; 0 where they are not whole rows, and at width or stride 0
unfoldable pub height_of : ℕ → ℕ → ℕ → ℕ
height_of n width stride =
    cond (eqb (width * stride) 0) 0 (cond (eqb (n % (width * stride)) 0) (n / (width * stride)) 0)

-- `col_maj_idx`: columns one after the other, each of height * stride words, its rows a stride apart
abbrev pub cell_index : ℕ → ℕ → ℕ → ℕ → ℕ
cell_index height stride row col = col * (height * stride) + row * stride

-- the row and the column are the matrix's, and the slice reaches there; a stride of 0 parts no rows
unfoldable pub has_cell : List ℕ → ℕ → ℕ → ℕ → ℕ → ℕ → Bool
has_cell values width height stride row col =
    ltb col width && (ltb row height && (ltb 0 stride && ltb (cell_index height stride row col) (length values)))

-- 11 where there is no such cell
unfoldable pub cell_of : List ℕ → ℕ → ℕ → ℕ → ℕ → ℕ → Result ℕ Refusal
cell_of values width height stride row col =
    cond (has_cell values width height stride row col) (Ok (get_or values (cell_index height stride row col) 0)) (Err NoSuchColumn)
