-- `plan_text::put_decimal` meets its contract.
use Rattle.text.proofs.Writings.{put_both}
use Rattle.plan_text.proofs.put_decimal.Goals as goal

pub returns : goal.returns
returns c = put_both _ _ _ _ _ c.put_decimal.ensures c.put.ensures
