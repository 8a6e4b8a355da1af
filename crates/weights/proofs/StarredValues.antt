-- The table of starred values, from the theorems that compute them.
use Rattle.tables.proofs.Starred.{x_times_x_cubed, minus_one_squared, quadratic_at_three, table_of_two_three, eq_of_two_three, rot_of_two_three, eq_uni_of_three_five, in_uni_at_three, rows_fold, table_folds}
use Rattle.layout.specs.Starred.{stacked_example}
use Rattle.weights.specs.Starred.{Starred}

pub starred : Starred
starred =
    record {
      x_times_x_cubed = x_times_x_cubed;
      minus_one_squared = minus_one_squared;
      quadratic_at_three = quadratic_at_three;
      table_of_two_three = table_of_two_three;
      eq_of_two_three = eq_of_two_three;
      rot_of_two_three = rot_of_two_three;
      eq_uni_of_three_five = eq_uni_of_three_five;
      in_uni_at_three = in_uni_at_three;
      stacked_example = stacked_example;
      rows_fold = rows_fold;
      table_folds = table_folds;
    }
