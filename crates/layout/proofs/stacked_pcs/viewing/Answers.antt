-- `stacked_pcs::viewing` meets its contract: the numbers in their order. Assumes nothing.
use mathlib.Core.Bool.{not}
use mathlib.Core.Path.{refl, sym, ap, ◌∙◌}
use native.Mathlib.Omega.{arith}
use borrow.Author.Tests.{le-leb, lt-leb, eq-eqb, ne_eqb}
use Rattle.field.specs.Number.{settled, refusal_of, refusals}
use Rattle.layout.specs.Answers.{answer_of}
use Rattle.layout.specs.Refusals.{triple_number}
use Rattle.layout.specs.Viewing.{view_number}
use Rattle.layout.proofs.Answering.{zero_by, not_zero_by, refused_by}
use Rattle.layout.proofs.Passed.{plan_laid}
use Rattle.layout.proofs.Parts.{width-cells}
use Rattle.layout.proofs.Firsts.{skip, stop, skips, stops, passed, refused, differs, same}
use Rattle.layout.proofs.stacked_pcs.viewing.Goals as goal

pub returns-in_err-plan : goal.returns-in_err-plan
unfolding view_number triple_number answer_of
returns-in_err-plan c = refused_by _ _ _ _ c.plan.ensures c.in_err-plan.was c.from_residual.ensures.1 (stop _ _ _ refl (not_zero_by _ _ c.plan.ensures c.in_err-plan.was))

pub returns-then-list-ne0 : goal.returns-then-list-ne0
unfolding view_number triple_number answer_of settled refusal_of refusals
returns-then-list-ne0 c = ap answer_of (skip _ _ (zero_by _ _ c.plan.ensures c.in_ok-plan.was) (stops _ _ _ (omega arith) (differs _ _ c.if-list-ne0.true)))

pub matrix_start-requires : goal.matrix_start-requires
unfolding answer_of
matrix_start-requires c = (plan_laid _ _ _ (zero_by _ _ c.plan.ensures c.in_ok-plan.was), omega arith)

pub returns-then-stacked-matrix_start : goal.returns-then-stacked-matrix_start
unfolding view_number triple_number answer_of settled refusal_of refusals
returns-then-stacked-matrix_start c = ap answer_of (skip _ _ (zero_by _ _ c.plan.ensures c.in_ok-plan.was) (skips _ _ _ (same _ _ c.if-list-ne0.false) (stops _ _ _ (omega arith) (differs _ _ (λ e. c.if-stacked-matrix_start.true (e ∙ sym (width-cells _ _ c.args.list.now _ c.matrix_start.ensures)))))))

pub returns-then-not-canonical : goal.returns-then-not-canonical
unfolding view_number triple_number answer_of settled refusal_of refusals
returns-then-not-canonical c = ap answer_of (skip _ _ (zero_by _ _ c.plan.ensures c.in_ok-plan.was) (skips _ _ _ (same _ _ c.if-list-ne0.false) (skips _ _ _ (same _ _ (c.if-stacked-matrix_start.false ∙ width-cells _ _ c.args.list.now _ c.matrix_start.ensures)) (stops _ _ _ (omega arith) (ap not (sym c.canonical.ensures) ∙ (ap not c.if-not-canonical.true))))))

pub returns-then-m-mat_idx : goal.returns-then-m-mat_idx
unfolding view_number triple_number answer_of settled refusal_of refusals
returns-then-m-mat_idx c = ap answer_of (skip _ _ (zero_by _ _ c.plan.ensures c.in_ok-plan.was) (skips _ _ _ (same _ _ c.if-list-ne0.false) (skips _ _ _ (same _ _ (c.if-stacked-matrix_start.false ∙ width-cells _ _ c.args.list.now _ c.matrix_start.ensures)) (skips _ _ _ (ap not (sym c.canonical.ensures) ∙ (ap not c.if-not-canonical.false)) (stops _ _ _ (omega arith) (le-leb _ _ c.if-m-mat_idx.true))))))

pub returns-then-list-mat_idx-eq0 : goal.returns-then-list-mat_idx-eq0
unfolding view_number triple_number answer_of settled refusal_of refusals
returns-then-list-mat_idx-eq0 c = ap answer_of (skip _ _ (zero_by _ _ c.plan.ensures c.in_ok-plan.was) (skips _ _ _ (same _ _ c.if-list-ne0.false) (skips _ _ _ (same _ _ (c.if-stacked-matrix_start.false ∙ width-cells _ _ c.args.list.now _ c.matrix_start.ensures)) (skips _ _ _ (ap not (sym c.canonical.ensures) ∙ (ap not c.if-not-canonical.false)) (skips _ _ _ (lt-leb _ _ c.if-m-mat_idx.false) (sym (refused _ _ (eq-eqb _ _ c.if-list-mat_idx-eq0.true))))))))

pub returns : goal.returns
unfolding view_number triple_number answer_of settled refusal_of refusals
returns c = ap answer_of (skip _ _ (zero_by _ _ c.plan.ensures c.in_ok-plan.was) (skips _ _ _ (same _ _ c.if-list-ne0.false) (skips _ _ _ (same _ _ (c.if-stacked-matrix_start.false ∙ width-cells _ _ c.args.list.now _ c.matrix_start.ensures)) (skips _ _ _ (ap not (sym c.canonical.ensures) ∙ (ap not c.if-not-canonical.false)) (skips _ _ _ (lt-leb _ _ c.if-m-mat_idx.false) (sym (passed _ _ (ne_eqb _ _ c.if-list-mat_idx-eq0.false))))))))
