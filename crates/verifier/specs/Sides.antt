-- The two sides of 13 and of 14, in the order of the Rust's `StackedReductionError`: s_0 and s_0_sum_eval, claim and final_sum.
use Rattle.std.specs.Prelude.{◌+◌, ◌*◌}
use Rattle.field.specs.Element.{Elem}
use Rattle.field.specs.Slice.{elem_at}
use Rattle.tables.specs.Points.{coordinates, count}
use Rattle.tables.specs.OnSlices.{value_of}
use Rattle.layout.specs.Lists.{first_count}
use Rattle.weights.specs.Run.{Run}
use Rattle.weights.specs.AtField.{weighted_claims_f, first_sum_f, carried_f, final_sum_f}
use Rattle.weights.specs.RunOf.{run_of}
use Rattle.verifier.specs.Asked.{Asked}

module _ (a : Asked) where
  abbrev pub run : Run Elem
  run = run_of a.skip a.stack (first_count a.counts) a.lists a.r a.lambda

  -- the weighted claims: the sum of the claims times their lambda powers
  unfoldable pub weighted : Elem
  weighted = weighted_claims_f run (elem_at a.claims)

  -- the sum of the first polynomial over the skip subgroup
  unfoldable pub first_sum : Elem
  first_sum = first_sum_f run (coordinates a.coefficients 0 (count a.coefficients))

  -- the carried claim: the first polynomial's value at u_0, then each sent quadratic's at its challenge
  unfoldable pub claimed : Elem
  claimed =
      carried_f (value_of a.coefficients (elem_at a.challenges 0)) (λ j. elem_at a.pairs (2 * j)) (λ j. elem_at a.pairs (2 * j + 1))
      (λ j. elem_at a.challenges (1 + j)) a.stack

  -- the final sum: the polynomial through each column's weights at u_0 to u_n_stack, times the opening of its stack column
  unfoldable pub final_sum : Elem
  final_sum = final_sum_f run (elem_at a.challenges 0) (coordinates a.challenges 1 a.stack) (elem_at a.openings)
