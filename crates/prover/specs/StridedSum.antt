-- Words at a stride, each times an element of a table: Σ_{y<n} q_(at + stride·y) · t_y; and so the rows of a column, added up over its blocks.
use Rattle.std.specs.Prelude.{ℕ, ◌+◌, ◌-◌, ◌*◌, ◌^◌, List}
use Rattle.algebra.specs.Sum.{sum}
use Rattle.algebra.specs.Multilinear.{cube_factor}
use Rattle.field.specs.Element.{Elem, F, ◌⊗◌}
use Rattle.tables.specs.Index.{before}
use Rattle.tables.specs.Points.{coordinates}
use Rattle.prover.specs.RowSum.{from_words}

unfoldable pub strided_sum : List ℕ → ℕ → ℕ → (ℕ → Elem) → ℕ → Elem
strided_sum q at stride t n = sum F n (λ y. from_words q (at + stride * y) ⊗ t y)

-- of a column of log height h that starts at cell s: row i, each block times its entry of the eq table of r_1 to r_n_lift; and times the entry before, the
-- last one before the first
module _ (l h s : ℕ) (r q : List ℕ) where
  unfoldable pub plain_row : ℕ → Elem
  plain_row i = strided_sum q (s + i) (2 ^ l) (cube_factor F (coordinates r 1 (h - l))) (2 ^ (h - l))

  unfoldable pub turned_row : ℕ → Elem
  turned_row i = strided_sum q (s + i) (2 ^ l) (λ x. cube_factor F (coordinates r 1 (h - l)) (before (2 ^ (h - l)) x)) (2 ^ (h - l))
