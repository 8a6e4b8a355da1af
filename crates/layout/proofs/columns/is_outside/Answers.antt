-- `columns::is_outside` meets its contract. Assumes nothing.
use mathlib.Core.Path.{refl}
use Rattle.layout.specs.Answers.{answer_of}
use Rattle.layout.specs.Columns.{outside}
use Rattle.layout.proofs.Answering.{zero_unless, not_zero_where}
use Rattle.layout.proofs.Firsts.{or_no, or_yes, differs, same}
use Rattle.layout.proofs.columns.is_outside.Goals as goal

pub returns-then-is_err : goal.returns-then-is_err
unfolding outside answer_of
returns-then-is_err c = or_yes _ _ (differs _ _ (not_zero_where _ _ c.limits.ensures c.if-is_err.ensures.value))

pub returns : goal.returns
unfolding outside answer_of
returns c = or_no _ _ (same _ _ (zero_unless _ _ c.limits.ensures c.if-is_err.ensures.value)) refl
