-- The true claims in the verdict's order: column after column its value at r and, where it is flagged, its value with the rows turned by one.
use Rattle.std.specs.Prelude.{List, [], ◌∷◌, ◌++◌, ℕ, zero, suc}
use Rattle.algebra.specs.Ring.{Ring}
use Rattle.weights.specs.Run.{Run}
use Rattle.weights.specs.ColumnValue.{column_value, column_rotated}

module _ {A : Type 0} where
  unfoldable pub claims_with : ℕ → A → A → List A
  claims_with zero a b = a ∷ []
  claims_with (suc f) a b = a ∷ b ∷ []

module _ {A : Type 0} (R : Ring A) (half w : A) (run : Run A) (cells : ℕ → A) where
  -- of the columns before column k
  unfoldable pub true_before : ℕ → List A
  true_before zero = []
  true_before (suc k) = true_before k ++ claims_with (run.flag k) (column_value R half w run cells k) (column_rotated R half w run cells k)

  unfoldable pub true_claims : List A
  true_claims = true_before run.count
