-- The definitions at the field: with its half, and the root of order 2^l_skip.
use Rattle.std.specs.Prelude.{List, ℕ, get_or}
use Rattle.field.specs.Element.{Elem, F, half_elem}
use Rattle.field.specs.Powers.{root}
use Rattle.tables.specs.SubgroupSum.{subgroup_sum}
use Rattle.weights.specs.Run.{Run}
use Rattle.weights.specs.LambdaPowers.{weighted_claims}
use Rattle.weights.specs.Weights.{weights}
use Rattle.weights.specs.StackColumns.{folded_column, true_opening}
use Rattle.weights.specs.ColumnValue.{column_value, column_rotated, weighted_truth}
use Rattle.weights.specs.FoldedSum.{folded_sum, honest}
use Rattle.weights.specs.FinalSum.{final_sum}
use Rattle.weights.specs.HeightTables.{eq_entry, rot_entry}
use Rattle.weights.specs.ColumnWeight.{column_weight}
use Rattle.weights.specs.Carried.{carried}
use Rattle.weights.specs.FirstPolynomial.{first_coefficient, first_polynomial}
use Rattle.weights.specs.TrueClaims.{true_claims}

module _ (run : Run Elem) where
  abbrev pub weights_f : ℕ → ℕ → Elem
  weights_f = weights F half_elem (root run.skip) run

  abbrev pub weighted_claims_f : (ℕ → Elem) → Elem
  weighted_claims_f = weighted_claims F run

  -- the sum of the first polynomial, by its coefficients, over the skip subgroup
  abbrev pub first_sum_f : List Elem → Elem
  first_sum_f = subgroup_sum F run.skip (root run.skip)

  abbrev pub final_sum_f : Elem → List Elem → (ℕ → Elem) → Elem
  final_sum_f = final_sum F half_elem (root run.skip) run

  abbrev pub eq_entry_f : ℕ → Elem → ℕ → Elem
  eq_entry_f = eq_entry F half_elem (root run.skip) run

  abbrev pub rot_entry_f : ℕ → Elem → ℕ → Elem
  rot_entry_f = rot_entry F half_elem (root run.skip) run

  abbrev pub column_weight_f : ℕ → List Elem → Elem
  column_weight_f = column_weight F run

  module _ (cells : ℕ → Elem) where
    abbrev pub column_value_f : ℕ → Elem
    column_value_f = column_value F half_elem (root run.skip) run cells

    abbrev pub column_rotated_f : ℕ → Elem
    column_rotated_f = column_rotated F half_elem (root run.skip) run cells

    abbrev pub weighted_truth_f : Elem
    weighted_truth_f = weighted_truth F half_elem (root run.skip) run cells

    abbrev pub folded_column_f : Elem → List Elem → ℕ → ℕ → Elem
    folded_column_f = folded_column F half_elem (root run.skip) run cells

    abbrev pub true_opening_f : Elem → List Elem → ℕ → Elem
    true_opening_f = true_opening F half_elem (root run.skip) run cells

    abbrev pub folded_sum_f : Elem → List Elem → Elem
    folded_sum_f = folded_sum F half_elem (root run.skip) run cells

    abbrev pub honest_f : Elem → List Elem → Elem → Elem
    honest_f = honest F half_elem (root run.skip) run cells

    -- the honest first polynomial, by coefficients
    abbrev pub first_coefficient_f : ℕ → Elem
    first_coefficient_f = first_coefficient F half_elem (root run.skip) run cells

    abbrev pub first_polynomial_f : List Elem
    first_polynomial_f = first_polynomial F half_elem (root run.skip) run cells

    -- the true claims, and the i-th of them
    abbrev pub true_claims_f : List Elem
    true_claims_f = true_claims F half_elem (root run.skip) run cells

    abbrev pub true_claim_f : ℕ → Elem
    true_claim_f i = get_or true_claims_f i F.zero

abbrev pub carried_f : Elem → (ℕ → Elem) → (ℕ → Elem) → (ℕ → Elem) → ℕ → Elem
carried_f = carried F half_elem
