-- The rows of the columns of one order, added up: what a column adds, the sums over the first m columns, and what an order adds to the first polynomial.
use Rattle.std.specs.Prelude.{◌≡◌, ℕ, ◌^◌, ◌<◌, min, List, ◌≢◌}
use Rattle.algebra.specs.Sum.{sum}
use Rattle.field.specs.Element.{Elem, F, ◌⊕◌, ◌⊖◌, ◌⊗◌, half_elem}
use Rattle.field.specs.Powers.{root}
use Rattle.field.specs.Slice.{elem_at}
use Rattle.weights.specs.Run.{Run, order}
use Rattle.weights.specs.LambdaPowers.{if_flagged, plain_power}
use Rattle.weights.specs.Parts.{if_equal, plain_rows, turned_rows, flagged_power, class_rows, flagged_rows, rotated_rows, at_order, wrap, kernel_product}
use Rattle.prover.specs.Gained.{Elements}
use Rattle.prover.specs.StridedSum.{plain_row, turned_row}

-- what a column of log height h that starts at cell s adds to the sums of order o, with its power of lambda: to u and f together, to f where it is flagged, and of the full order to g
pub record ColumnRows (l o h flag : ℕ) (power : Elem) (q : List ℕ) (s : ℕ) (r u f g u' f' g' : List ℕ) : Type 0 where
  pub both : (i : ℕ) → i < 2 ^ l → elem_at u' i ⊕ elem_at f' i ≡ elem_at u i ⊕ elem_at f i ⊕ if_equal F (min l h) o power ⊗ plain_row l h s r q i
  pub flagged : (i : ℕ) → i < 2 ^ l → elem_at f' i ≡ elem_at f i ⊕ if_equal F (min l h) o (if_flagged F flag power) ⊗ plain_row l h s r q i
  pub turned : o ≡ l → (i : ℕ) → i < 2 ^ l → elem_at g' i ≡ elem_at g i ⊕ if_equal F (min l h) l (if_flagged F flag power) ⊗ turned_row l h s r q i
  pub u_words : Elements (2 ^ l) u'
  pub f_words : Elements (2 ^ l) f'
  pub g_words : Elements (2 ^ l) g'

module _ (run : Run Elem) (cells : ℕ → Elem) where
  -- of the first m columns
  pub record Summed (o m : ℕ) (u f g : List ℕ) : Type 0 where
    pub both : (i : ℕ) → i < 2 ^ run.skip → elem_at u i ⊕ elem_at f i ≡ sum F m (λ k. if_equal F (order run (run.log k)) o (plain_power F run k) ⊗ plain_rows F run cells k i)
    pub flagged : (i : ℕ) → i < 2 ^ run.skip → elem_at f i ≡ sum F m (λ k. if_equal F (order run (run.log k)) o (flagged_power F run cells k) ⊗ plain_rows F run cells k i)
    pub turned : o ≡ run.skip → (i : ℕ) → i < 2 ^ run.skip
        → elem_at g i ≡ sum F m (λ k. if_equal F (order run (run.log k)) run.skip (flagged_power F run cells k) ⊗ turned_rows F run cells k i)
    pub u_words : Elements (2 ^ run.skip) u
    pub f_words : Elements (2 ^ run.skip) f
    pub g_words : Elements (2 ^ run.skip) g

  -- none of the first m columns has the order o
  abbrev pub Missing : ℕ → ℕ → Type 0
  Missing o m = (k : ℕ) → k < m → order run (run.log k) ≢ o

  -- what order o adds to coefficient j, and what the full order adds beside it
  unfoldable pub order_term : ℕ → ℕ → Elem
  order_term o j =
      kernel_product F half_elem (root run.skip) run cells o (at_order F half_elem (root run.skip) run cells o run.r0) (class_rows F run cells o) j
      ⊕ run.lambda
      ⊗ kernel_product F half_elem (root run.skip) run cells o
      (at_order F half_elem (root run.skip) run cells o (root run.skip) ⊗ at_order F half_elem (root run.skip) run cells o run.r0) (flagged_rows F run cells o) j

  unfoldable pub turned_term : ℕ → Elem
  turned_term j =
      run.lambda ⊗ wrap F half_elem (root run.skip) run cells
      ⊗ kernel_product F half_elem (root run.skip) run cells run.skip F.one (λ i. rotated_rows F run cells i ⊖ flagged_rows F run cells run.skip i) j

  unfoldable pub gain_of : ℕ → ℕ → Elem
  gain_of o j = order_term o j ⊕ if_equal F o run.skip (turned_term j)
