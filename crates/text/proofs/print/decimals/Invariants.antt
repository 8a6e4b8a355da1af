-- `text::print::decimals` meets its contract: a number a turn.
use mathlib.Core.Path.{◌≡◌}
use lib.ListN.{drop}
use Rattle.text.specs.Printed.{decimal_of, filled, all_of}
use Rattle.text.proofs.print.decimals.Given as goal

abbrev pub invariant-loop-x : goal.invariant-loop-x
invariant-loop-x l = all_of decimal_of (filled l.out l.to) (drop l.x-index l.xs) ≡ all_of decimal_of (filled l.initial.out l.initial.to) l.xs
