-- What the moving of words between two arrangements of rows and columns asks, and what it leaves.
use Rattle.std.specs.Prelude.{ℕ, ◌+◌, ◌*◌, ◌^◌, ◌<◌, ◌≤◌, ◌≡◌, Bool, true, false, List, get_or}
use Rattle.storage.specs.Reversed.{reversed}
use Rattle.storage.specs.declared.moving.Grid.{Grid}

-- where row b of column c stands, rows being counted by k bits
abbrev pub grid_at : Grid → ℕ → ℕ → ℕ → ℕ
grid_at g k b c = g.at + b * g.row + reversed k b * g.turned + c * g.column

-- every row of every column is there
abbrev pub There : Grid → ℕ → ℕ → ℕ → Type 0
There g k w size = (b c : ℕ) → b < 2 ^ k → c < w → grid_at g k b c < size

-- word s goes to place p: the same row, one of `rows`, of the same column, one of the first w
pub record Route (f t : Grid) (k : ℕ) (rows : ℕ → Type 0) (w p s : ℕ) : Type 0 where
  pub b : ℕ
  pub c : ℕ
  pub one : rows b
  pub row : b < 2 ^ k
  pub column : c < w
  pub to : p ≡ grid_at t k b c
  pub from : s ≡ grid_at f k b c

-- f says which word each place must hold that a word goes to
abbrev pub Said : List ℕ → (ℕ → ℕ → Type 0) → (ℕ → ℕ) → Type 0
Said from goes f = (p s : ℕ) → goes p s → get_or from s 0 ≡ f p

-- the words went where they go, and no place that held what it must lost it
pub record Carried (from : List ℕ) (goes : ℕ → ℕ → Type 0) (old new : List ℕ) : Type 0 where
  pub done : (f : ℕ → ℕ) → Said from goes f → (p s : ℕ) → goes p s → get_or new p 0 ≡ f p
  pub kept : (f : ℕ → ℕ) → Said from goes f → (p : ℕ) → get_or old p 0 ≡ f p → get_or new p 0 ≡ f p

-- n words, da apart from place a on, go to places db apart from place b on
abbrev pub OnLine : ℕ → ℕ → ℕ → ℕ → ℕ → ℕ → ℕ → Type 0
OnLine a da b db n p s = (i : ℕ) × (i < n) × (p ≡ b + i * db) × (s ≡ a + i * da)

-- a row's words side by side in both; a column's words at even steps in both
pub record ByRows (f t : Grid) : Type 0 where
  pub from : f.column ≡ 1
  pub to : t.column ≡ 1

pub record ByColumns (f t : Grid) : Type 0 where
  pub from : f.turned ≡ 0
  pub to : t.turned ≡ 0

-- the arrangement of a tile: 16 words a row
abbrev pub tiled : Grid
tiled = record { at = 0; row = 16; turned = 0; column = 1 }

-- into rows: from even columns; out of them: to even columns
pub record Ways (storing : Bool) (f t : Grid) : Type 0 where
  pub into : storing ≡ true → (f.turned ≡ 0) × (t.column ≡ 1)
  pub out : storing ≡ false → (f.column ≡ 1) × (t.turned ≡ 0)

-- from one buffer to another, k bits of rows and w columns
pub record Between (from : ℕ) (f : Grid) (to : ℕ) (t : Grid) (k w : ℕ) : Type 0 where
  pub reads : There f k w from
  pub writes : There t k w to
  pub bits : k ≤ 24
  pub narrow_from : f.turned ≤ 4096
  pub narrow_to : t.turned ≤ 4096

-- row b is one of group i of 2^m rows
abbrev pub Group : ℕ → ℕ → ℕ → Type 0
Group m i b = (2 ^ m * i ≤ b) × (b < 2 ^ m * i + 2 ^ m)

-- the arrangement of a stacked matrix of 2^k rows, and that of its stored rows of w words
abbrev pub columns_grid : ℕ → Grid
columns_grid k = record { at = 0; row = 1; turned = 0; column = 2 ^ k }

abbrev pub rows_grid : ℕ → Grid
rows_grid w = record { at = 0; row = 0; turned = w; column = 1 }

-- group g of 2^t rows from row x of column c on, where y is the reversal of g: the arrangement there
abbrev pub part_of : Grid → ℕ → ℕ → ℕ → ℕ → Grid
part_of g x y c step = record { at = g.at + x * g.row + y * g.turned + c * g.column; row = g.row; turned = step * g.turned; column = g.column }
