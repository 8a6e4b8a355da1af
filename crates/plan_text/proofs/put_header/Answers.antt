-- `plan_text::put_header` meets its contract.
use Rattle.text.proofs.Writings.{put_both}
use Rattle.plan_text.specs.Printing.{header}
use Rattle.plan_text.proofs.put_header.Goals as goal

pub returns : goal.returns
unfolding header
returns c = put_both _ _ _ _ _ (put_both _ _ _ _ _ c.put_decimal.ensures c.put_decimal-2.ensures) c.put_decimal-3.ensures
