-- The stacked matrix, by cells and stride. The cells are one slice, matrix by matrix, column by column.
use Rattle.std.specs.Prelude.{ℕ, zero, suc, ◌+◌, ◌-◌, ◌*◌, ◌^◌, List, [], ◌∷◌, ◌++◌, length, take, drop, replicate}
use Rattle.layout.specs.Triples.{count_of, width_at, log_at}
use Rattle.layout.specs.Placing.{height, stack_width}

-- the cells of matrix i, and of the matrices before it
unfoldable pub cells_of : List ℕ → ℕ → ℕ
cells_of list i = width_at list i * 2 ^ log_at list i

unfoldable pub cells_before : List ℕ → ℕ → ℕ
cells_before list zero = 0
cells_before list (suc i) = cells_before list i + cells_of list i

abbrev pub cell_count : List ℕ → ℕ
cell_count list = cells_before list (count_of list)

-- short columns go down at stride 2^(l_skip-h)
abbrev pub stride_of : ℕ → ℕ → ℕ
stride_of l h = 2 ^ (l - h)

-- cells at a stride, zeros between
unfoldable pub spread : ℕ → List ℕ → List ℕ
spread s [] = []
spread s (x ∷ xs) = x ∷ (replicate (s - 1) 0 ++ spread s xs)

-- matrix i in the stacked matrix
unfoldable pub spread_matrix : ℕ → List ℕ → List ℕ → ℕ → List ℕ
spread_matrix l list cells i = spread (stride_of l (log_at list i)) (take (cells_of list i) (drop (cells_before list i) cells))

-- the first i matrices, one after the other
unfoldable pub stacked_up_to : ℕ → List ℕ → List ℕ → ℕ → List ℕ
stacked_up_to l list cells zero = []
stacked_up_to l list cells (suc i) = stacked_up_to l list cells i ++ spread_matrix l list cells i

-- with zeros up to k words
abbrev pub padded : ℕ → List ℕ → List ℕ
padded k xs = xs ++ replicate (k - length xs) 0

-- all of them, and zeros in the unused rows of the last stack column
unfoldable pub stacked_matrix : ℕ → ℕ → List ℕ → List ℕ → List ℕ
stacked_matrix l n list cells = padded (stack_width l n (count_of list) list * height l n) (stacked_up_to l list cells (count_of list))
