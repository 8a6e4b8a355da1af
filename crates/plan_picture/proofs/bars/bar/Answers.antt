-- `plan_picture::bars::bar` meets its contract.
use mathlib.Core.Path.{sym, ◌∙◌}
use Rattle.text.proofs.Writings.{put_none, put_both}
use Rattle.plan_picture.specs.Parts.{bar_at}
use Rattle.plan_picture.proofs.Appending.{put_true, put_false}
use Rattle.plan_picture.proofs.bars.bar.Goals as goal

pub returns-then-is_numbered : goal.returns-then-is_numbered
unfolding bar_at
returns-then-is_numbered c = put_both _ _ _ _ _ c.put_bar.ensures (put_true _ _ _ _ _ (sym c.is_numbered.ensures ∙ c.if-is_numbered.true) c.put_bar_number.ensures)

pub returns-else-is_numbered : goal.returns-else-is_numbered
unfolding bar_at
returns-else-is_numbered c = put_both _ _ _ _ _ c.put_bar.ensures (put_false _ _ _ _ _ (sym c.is_numbered.ensures ∙ c.if-is_numbered.false) (put_none _))
