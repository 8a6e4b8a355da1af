-- `text::print::append_record` meets its contract.
use Rattle.text.specs.Printed.{record_of}
use Rattle.text.proofs.Pages.{appended_both}
use Rattle.text.proofs.print.append_record.Goals as goal

pub returns : goal.returns
unfolding record_of
returns c =
    let a = c.args in
    let first = c.append_word-next in
    let second = c.append_word in
    appended_both a.out.now first.new.out second.new.out _ _ a.at first.result second.result first.ensures second.ensures
