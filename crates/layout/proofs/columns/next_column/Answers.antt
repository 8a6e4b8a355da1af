-- `columns::next_column` meets its contract. Assumes nothing.
use mathlib.Core.Path.{sym, ◌∙◌}
use Rattle.layout.specs.Answers.{answer_of}
use Rattle.layout.proofs.Answering.{zero_unless, not_zero_where}
use Rattle.layout.proofs.MatricesPass.{matrices_laid}
use Rattle.layout.proofs.Nexts.{next_refused, next_stray, next_passed}
use Rattle.layout.proofs.columns.next_column.Goals as goal

pub returns-then-is_err : goal.returns-then-is_err
unfolding answer_of
returns-then-is_err c =
    c.end_mark.ensures ∙ next_refused _ _ _ _ _ (not_zero_where _ _ c.matrices.ensures c.if-is_err.ensures.value)

pub is_placed-requires : goal.is_placed-requires
unfolding answer_of
is_placed-requires c = matrices_laid _ _ _ _ (zero_unless _ _ c.matrices.ensures c.if-is_err.ensures.value)

pub returns-then-not-is_placed : goal.returns-then-not-is_placed
returns-then-not-is_placed c = c.end_mark-then-not-is_placed.ensures ∙ next_stray _ _ _ _ _ (sym c.is_placed.ensures ∙ c.if-not-is_placed.true)

pub returns : goal.returns
unfolding answer_of
returns c =
    c.walk_next.ensures
    ∙ next_passed _ _ _ _ _ (zero_unless _ _ c.matrices.ensures c.if-is_err.ensures.value)
    (sym c.is_placed.ensures ∙ c.if-not-is_placed.false)
