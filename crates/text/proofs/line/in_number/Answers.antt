-- `text::line::in_number` meets its contract.
use native.Mathlib.Omega.{arith}
use Rattle.std.proofs.lemmas.Bool.Decides.{nat_tests}
use Rattle.text.specs.Reading.{is_digit, value_with, digit_place}
use Rattle.text.proofs.line.in_number.Goals as goal

pub returns-in-Some : goal.returns-in-Some
unfolding is_digit value_with digit_place
returns-in-Some c = grind (arith, nat_tests)

pub returns-in-None : goal.returns-in-None
unfolding is_digit value_with digit_place
returns-in-None c = grind (arith, nat_tests)
