-- `columns::first_column` meets its contract. Assumes nothing.
use mathlib.Core.Path.{◌∙◌}
use Rattle.layout.specs.Answers.{answer_of}
use Rattle.layout.proofs.Answering.{zero_unless, not_zero_where}
use Rattle.layout.proofs.Nexts.{first_refused, first_passed}
use Rattle.layout.proofs.columns.first_column.Goals as goal

pub returns-then-is_err : goal.returns-then-is_err
unfolding answer_of
returns-then-is_err c =
    c.end_mark.ensures ∙ first_refused _ _ _ _ (not_zero_where _ _ c.matrices.ensures c.if-is_err.ensures.value)

pub returns : goal.returns
unfolding answer_of
returns c =
    c.walk_first.ensures ∙ first_passed _ _ _ _ (zero_unless _ _ c.matrices.ensures c.if-is_err.ensures.value)
