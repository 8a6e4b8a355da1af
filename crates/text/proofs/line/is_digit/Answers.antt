-- `text::line::is_digit` meets its contract.
use Rattle.std.proofs.Common.{arith}
use Rattle.std.proofs.lemmas.Bool.Decides.{nat_tests}
use Rattle.text.specs.Reading.{is_digit}
use Rattle.text.proofs.line.is_digit.Goals as goal

pub returns : goal.returns
unfolding is_digit
returns c = grind (arith, nat_tests)
