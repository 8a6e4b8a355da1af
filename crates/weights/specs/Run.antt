-- The input of a run beside the stacked matrices, and what it says of a column.
-- Columns count from 0 over all commitments, in the order of their lambda powers. A place is a cell, counted through the stack columns of
-- all commitments one after the other.
use Rattle.std.specs.Prelude.{List, ℕ, ◌-◌, ◌/◌, ◌^◌, min}
use Rattle.layout.specs.Placing.{stack_column, row_of}

pub record Run (A : Type 0) : Type 0 where
  -- l_skip and n_stack
  pub skip : ℕ
  pub stack : ℕ
  -- the number of columns; of each its first cell, its log height and its rotation flag
  pub count : ℕ
  pub start : ℕ → ℕ
  pub log : ℕ → ℕ
  pub flag : ℕ → ℕ
  -- r_0, then r_1 to r_n_stack
  pub r0 : A
  pub rs : List A
  pub lambda : A

-- of column k
module _ {A : Type 0} (run : Run A) (k : ℕ) where
  -- the stack column that holds it, over all commitments, and the row there at which it starts
  abbrev pub stack_of : ℕ
  stack_of = stack_column run.skip run.stack (run.start k)

  abbrev pub start_row : ℕ
  start_row = row_of run.skip run.stack (run.start k)

  -- the same row in units of 2^l_skip rows
  abbrev pub start_block : ℕ
  start_block = start_row / 2 ^ run.skip

-- of a log height h
module _ {A : Type 0} (run : Run A) (h : ℕ) where
  -- document 01's n is h − l_skip: n_lift where it is positive, and −n where it is negative; else 0
  abbrev pub lift : ℕ
  lift = h - run.skip

  abbrev pub gap : ℕ
  gap = run.skip - h

  -- the log of the number of powers that a column's rows stand at
  abbrev pub order : ℕ
  order = min run.skip h
