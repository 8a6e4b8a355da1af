-- The run that lists, r and lambda make: its columns in document 01's lambda order, each where document 01 places it; r_0, then r_1 to r_n_stack.
-- `first` is the number of matrices of the first commitment.
use Rattle.std.specs.Prelude.{List, ℕ}
use Rattle.field.specs.Element.{Elem, elem_of}
use Rattle.field.specs.Slice.{elem_at}
use Rattle.tables.specs.Points.{coordinates}
use Rattle.layout.specs.Triples.{column_count}
use Rattle.layout.specs.Columns.{column_at}
use Rattle.weights.specs.Run.{Run}

abbrev pub run_of : ℕ → ℕ → ℕ → List ℕ → List ℕ → List ℕ → Run Elem
run_of l n first lists r lambda = record {
  skip = l;
  stack = n;
  count = column_count lists;
  start = λ k. (column_at l n first lists k).start;
  log = λ k. (column_at l n first lists k).log;
  flag = λ k. (column_at l n first lists k).flag;
  r0 = elem_at r 0;
  rs = coordinates r 1 n;
  lambda = elem_of lambda;
}
