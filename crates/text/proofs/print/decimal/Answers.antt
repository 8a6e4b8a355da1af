-- `text::print::decimal` meets its contract.
use native.Mathlib.Omega.{arith}
use Rattle.text.specs.Printed.{decimal_of}
use Rattle.text.proofs.Pages.{spaced}
use Rattle.text.proofs.Counts.{decimal_low}
use Rattle.text.proofs.print.decimal.Goals as goal

pub returns : goal.returns
returns c =
    let a = c.args in
    let r = c.room-from in
    let first = c.append-next in
    let second = c.append_decimal in
    spaced a.out.now first.new.out second.new.out (decimal_of a.x) a.at first.result second.result
    (omega arith) (omega (arith, decimal_low a.x)) (rw r.ensures at first.ensures) second.ensures
