-- `runs::read_lists` meets its contract. Assumes nothing.
use mathlib.Core.Path.{refl, sym, ◌∙◌}
use native.Mathlib.Omega.{arith}
use Rattle.layout.specs.Answers.{answer_of}
use Rattle.layout.specs.Lists.{run_lists}
use Rattle.layout.proofs.Answering.{zero_by, refused_by}
use Rattle.layout.proofs.Handing.{zero_by_test, not_zero_by_test}
use Rattle.layout.proofs.RunLaws.{Listed, lists-passed, shaped-columns, read_short, read_done}
use Rattle.layout.proofs.runs.read_lists.Goals.{Else-is_err}
use Rattle.layout.proofs.runs.read_lists.Goals as goal

listed : (c : Else-is_err) → Listed c.args.l_skip c.args.n_stack c.args.counts.now c.args.lists.now
unfolding answer_of
listed c =
    lists-passed _ _ _ _ (zero_by _ _ c.lists_number.ensures c.in_ok-lists_number.was)
    (zero_by_test _ _ c.lists_length-length.ensures (sym c.is_err.ensures.value ∙ c.if-is_err.false))

pub returns-in_err-lists_number : goal.returns-in_err-lists_number
unfolding run_lists answer_of
returns-in_err-lists_number c = refused_by _ _ _ _ c.lists_number.ensures c.in_err-lists_number.was c.from_residual.ensures.1 refl

pub returns-then-is_err : goal.returns-then-is_err
unfolding answer_of
returns-then-is_err c =
    read_short _ _ _ _ (zero_by _ _ c.lists_number.ensures c.in_ok-lists_number.was) c.lists_length-length.ensures
    (not_zero_by_test _ _ c.lists_length-length.ensures (sym c.is_err.ensures.value ∙ c.if-is_err.true))

pub count_before-n-requires : goal.count_before-n-requires
count_before-n-requires c = (omega arith, shaped-columns _ _ _ (listed (goal.at.count_before-n-requires c).Else-is_err).laid.shaped)

pub matrix_start-end-requires : goal.matrix_start-end-requires
matrix_start-end-requires c = ((listed (goal.at.matrix_start-end-requires c).Else-is_err).laid, omega arith)

pub overflow_add-result : goal.overflow_add-result
overflow_add-result c = omega (arith, (listed (goal.at.overflow_add-result c).Else-is_err).laid.shaped.sum)

pub overflow_shr-result : goal.overflow_shr-result
overflow_shr-result c = omega (arith, (listed (goal.at.overflow_shr-result c).Else-is_err).laid.shaped.sum)

pub returns : goal.returns
unfolding answer_of
returns c =
    read_done _ _ _ _ (zero_by _ _ c.lists_number.ensures c.in_ok-lists_number.was) c.lists_length-length.ensures _ _ _
    (zero_by_test _ _ c.lists_length-length.ensures (sym c.is_err.ensures.value ∙ c.if-is_err.false))
    c.first_count-first.ensures c.count_before-n.ensures c.matrix_start-end.ensures
