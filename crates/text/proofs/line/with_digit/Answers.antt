-- `text::line::with_digit` meets its contract.
use native.Mathlib.Omega.{arith}
use Rattle.std.proofs.lemmas.Bool.Decides.{nat_tests}
use Rattle.text.specs.Reading.{is_digit, value_with}
use Rattle.text.proofs.line.with_digit.Goals as goal

pub returns-then-not-is_digit : goal.returns-then-not-is_digit
unfolding is_digit value_with
returns-then-not-is_digit c = grind (arith, nat_tests)

pub overflow_sub-byte : goal.overflow_sub-byte
unfolding is_digit
overflow_sub-byte c = grind (arith, nat_tests)

pub returns-then-next-from : goal.returns-then-next-from
unfolding is_digit value_with
returns-then-next-from c = grind (arith, nat_tests)

pub returns-else-next-from : goal.returns-else-next-from
unfolding is_digit value_with
returns-else-next-from c = grind (arith, nat_tests)
