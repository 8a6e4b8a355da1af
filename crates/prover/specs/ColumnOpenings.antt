-- The openings at r of a column of log height h that starts at cell s, as they are added up from the words of the stacked matrices: rows by the
-- eq table of the column's blocks, then by the Lagrange kernels of its order.
use Rattle.std.specs.Prelude.{ℕ, zero, suc, ◌-◌, ◌*◌, ◌^◌, min, List}
use Rattle.algebra.specs.Ring.{pow}
use Rattle.algebra.specs.Sum.{sum}
use Rattle.field.specs.Element.{Elem, F, ◌⊗◌}
use Rattle.field.specs.Powers.{root}
use Rattle.field.specs.Slice.{elem_at}
use Rattle.tables.specs.AtField.{lagrange_f}
use Rattle.prover.specs.StridedSum.{plain_row, turned_row}

module _ (l h s : ℕ) (r q : List ℕ) where
  -- the row at power t of the order; for the rotated opening the first one is turned
  abbrev pub row_at : ℕ → Elem
  row_at t = plain_row l h s r q (2 ^ (l - h) * t)

  unfoldable pub rotated_row : ℕ → Elem
  rotated_row zero = turned_row l h s r q 0
  rotated_row (suc t) = row_at (suc t)

  -- r_0 raised to the order
  abbrev pub raised_point : Elem
  raised_point = pow F (elem_at r 0) (2 ^ (l - h))

  -- the opening, then the rotated one
  unfoldable pub opened : ℕ → Elem
  opened zero = sum F (2 ^ min l h) (λ t. lagrange_f (min l h) t raised_point ⊗ row_at t)
  opened (suc j) = sum F (2 ^ min l h) (λ t. lagrange_f (min l h) t (root (min l h) ⊗ raised_point) ⊗ rotated_row t)
