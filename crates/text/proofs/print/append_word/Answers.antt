-- `text::print::append_word` meets its contract.
use native.Mathlib.Omega.{arith}
use lib.ListN.{take}
use Rattle.text.proofs.Counts.{hexadecimal_spelled}
use Rattle.text.proofs.print.append_word.Goals as goal

pub returns : goal.returns
returns c =
    let a = c.args in
    let d = c.hex-k in
    let text = take d.result d.new.out in
    rw (hexadecimal_spelled a.x d.result (omega arith) d.ensures.len text d.ensures.digits) at c.append.ensures
