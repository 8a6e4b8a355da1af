-- `text::print::record` meets its contract.
use native.Mathlib.Omega.{arith}
use Rattle.text.specs.Printed.{record_of}
use Rattle.text.proofs.Pages.{spaced}
use Rattle.text.proofs.Counts.{record_length}
use Rattle.text.proofs.print.record.Goals as goal

pub returns : goal.returns
returns c =
    let a = c.args in
    let r = c.room-from in
    let first = c.append-next in
    let second = c.append_record in
    spaced a.out.now first.new.out second.new.out (record_of a.a a.b) a.at first.result second.result
    (omega arith) (omega (arith, record_length a.a a.b)) (rw r.ensures at first.ensures) second.ensures
