-- `plan_text::digit` meets its contract.
use native.Mathlib.Omega.{arith}
use Rattle.std.proofs.lemmas.Bool.Decides.{nat_tests}
use Rattle.text.specs.Reading.{value_with}
use Rattle.plan_text.specs.Steps.{digit_of}
use Rattle.plan_text.proofs.digit.Goals as goal

pub returns-in-Some : goal.returns-in-Some
unfolding value_with digit_of
returns-in-Some c = grind (arith, nat_tests)

pub returns-in-None : goal.returns-in-None
unfolding value_with digit_of
returns-in-None c = grind (arith, nat_tests)
