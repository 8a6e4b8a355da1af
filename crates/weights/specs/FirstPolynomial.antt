-- The honest first polynomial, by coefficients: over columns and blocks, the product of the polynomial through the column's weights in that block and
-- of the one through its stack column there, each of degree below N = 2^l_skip in z.
use Rattle.std.specs.Prelude.{List, ℕ, ◌+◌, ◌*◌, ◌-◌, ◌^◌}
use Rattle.algebra.specs.Ring.{Ring}
use Rattle.algebra.specs.Sum.{sum}
use Rattle.algebra.specs.Listed.{listed}
use Rattle.weights.specs.Run.{Run, stack_of}
use Rattle.weights.specs.Weights.{weights}
use Rattle.weights.specs.StackColumns.{stack_rows}
use Rattle.tables.specs.Interpolated.{interpolated}
use Rattle.tables.specs.Product.{product_at}

module _ {A : Type 0} (R : Ring A) (half w : A) (run : Run A) (cells : ℕ → A) where
  -- block y of a table of rows, as a polynomial in z
  unfoldable pub block_at : (ℕ → A) → ℕ → ℕ → A
  block_at v y = interpolated R half run.skip w (λ i. v (i + 2 ^ run.skip * y))

  unfoldable pub first_coefficient : ℕ → A
  first_coefficient j =
      sum R run.count (λ k. sum R (2 ^ run.stack) (λ y.
      product_at R (2 ^ run.skip) (block_at (weights R half w run k) y) (block_at (stack_rows run cells (stack_of run k)) y) j))

  -- 2^(l_skip + 1) − 1 coefficients, the constant one first
  unfoldable pub first_polynomial : List A
  first_polynomial = listed (2 ^ (run.skip + 1) - 1) first_coefficient
