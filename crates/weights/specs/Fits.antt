-- What placing gives of a column of log height h that starts at cell s: it is not higher than a stack column, and its starting row is a multiple of
-- the rows that it takes.
use Rattle.std.specs.Prelude.{◌≡◌, ℕ, ◌+◌, ◌%◌, ◌<◌, ◌≤◌, length}
use Rattle.layout.specs.Placing.{slice_length, row_of}
use Rattle.weights.specs.Run.{Run}

pub record Fits (l n h s : ℕ) : Type 0 where
  pub log : h ≤ l + n
  pub aligned : row_of l n s % slice_length l h ≡ 0

-- a run over lists that are not refused
pub record Planned {A : Type 0} (run : Run A) : Type 0 where
  pub limit : run.skip ≤ 10
  pub point : length run.rs ≡ run.stack
  pub fits : (k : ℕ) → k < run.count → Fits run.skip run.stack (run.log k) (run.start k)
