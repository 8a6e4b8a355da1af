-- `plan_text::put_record` meets its contract.
use Rattle.text.proofs.Writings.{put_both}
use Rattle.plan_text.proofs.put_record.Goals as goal

pub returns : goal.returns
returns c = put_both _ _ _ _ _ c.put_record.ensures c.put.ensures
