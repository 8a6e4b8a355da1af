use mathlib.Core.Path.{◌∙◌}
use Rattle.tables.proofs.RowBefore.{row_before}
use Rattle.tables.proofs.poly.rot_prev.Goals as goal

pub returns : goal.returns
returns c = c.unwrap_or.ensures ∙ row_before _ _ c.checked_sub.result c.min-rows.ensures c.checked_sub.ensures
