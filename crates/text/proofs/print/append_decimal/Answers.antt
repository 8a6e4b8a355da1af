-- `text::print::append_decimal` meets its contract.
use native.Mathlib.Omega.{arith}
use lib.ListN.{take}
use Rattle.text.proofs.Counts.{decimal_spelled}
use Rattle.text.proofs.print.append_decimal.Goals as goal

pub returns : goal.returns
returns c =
    let put = c.append in
    let d = c.decimal-k in
    let a = c.args in
    rw (decimal_spelled a.x d.result (omega arith) d.ensures.len (take d.result d.new.out) d.ensures.digits) at put.ensures
