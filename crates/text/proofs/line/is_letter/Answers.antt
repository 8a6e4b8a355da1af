-- `text::line::is_letter` meets its contract.
use Rattle.std.proofs.Common.{arith}
use Rattle.std.proofs.lemmas.Bool.Decides.{nat_tests}
use Rattle.text.specs.Reading.{is_digit, is_letter}
use Rattle.text.proofs.line.is_letter.Goals as goal
use Rattle.text.proofs.line.is_letter.Goals.{then-is_ascii_lowercase, else-is_ascii_lowercase}

pub returns-then-is_digit : goal.returns-then-is_digit
unfolding is_letter is_digit
returns-then-is_digit c = grind (arith, nat_tests)

pub returns-else-is_digit : goal.returns-else-is_digit
unfolding is_letter is_digit
returns-else-is_digit c = grind (arith, nat_tests)
