-- `plan_text::put_refused` meets its contract.
use Rattle.text.proofs.Writings.{put_both}
use Rattle.plan_text.specs.Printing.{refusal}
use Rattle.plan_text.proofs.put_refused.Goals as goal

pub returns : goal.returns
unfolding refusal
returns c = put_both _ _ _ _ _ c.put.ensures c.put_decimal.ensures
