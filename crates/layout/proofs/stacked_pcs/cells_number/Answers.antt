-- `stacked_pcs::cells_number` meets its contract: the numbers in their order. Assumes nothing.
use mathlib.Core.Bool.{not}
use mathlib.Core.Path.{refl, sym, ap, ◌∙◌}
use native.Mathlib.Omega.{arith}
use borrow.Author.Tests.{eq-eqb, ne_eqb}
use Rattle.field.specs.Number.{settled, refusal_of, refusals}
use Rattle.layout.specs.Answers.{answer_of}
use Rattle.layout.specs.Stacking.{cells_number}
use Rattle.layout.proofs.Answering.{zero_by, not_zero_by, refused_by}
use Rattle.layout.proofs.Passed.{laid_passed}
use Rattle.layout.proofs.Parts.{width-cells}
use Rattle.layout.proofs.Firsts.{skip, stop, skips, stops, passed, refused, differs, same}
use Rattle.layout.proofs.stacked_pcs.cells_number.Goals as goal

pub returns-in_err-laid : goal.returns-in_err-laid
unfolding cells_number answer_of
returns-in_err-laid c = refused_by _ _ _ _ c.laid.ensures c.in_err-laid.was c.from_residual.ensures.1 (stop _ _ _ refl (not_zero_by _ _ c.laid.ensures c.in_err-laid.was))

pub returns-then-count-eq0 : goal.returns-then-count-eq0
unfolding cells_number answer_of settled refusal_of refusals
returns-then-count-eq0 c = ap answer_of (skip _ _ (zero_by _ _ c.laid.ensures c.in_ok-laid.was) (stops _ _ _ (omega arith) (eq-eqb _ _ (sym c.count.ensures ∙ c.if-count-eq0.true))))

pub returns-then-over-ne0 : goal.returns-then-over-ne0
unfolding cells_number answer_of settled refusal_of refusals
returns-then-over-ne0 c = ap answer_of (skip _ _ (zero_by _ _ c.laid.ensures c.in_ok-laid.was) (skips _ _ _ (ne_eqb _ _ (λ e. c.if-count-eq0.false (c.count.ensures ∙ e))) (stops _ _ _ (omega arith) (differs _ _ c.if-over-ne0.true))))

pub cell_count-requires : goal.cell_count-requires
unfolding answer_of
cell_count-requires c = laid_passed _ _ _ _ c.requires.0 (zero_by _ _ c.laid.ensures c.in_ok-laid.was)

pub returns-then-cells-cell_count : goal.returns-then-cells-cell_count
unfolding cells_number answer_of settled refusal_of refusals
returns-then-cells-cell_count c = ap answer_of (skip _ _ (zero_by _ _ c.laid.ensures c.in_ok-laid.was) (skips _ _ _ (ne_eqb _ _ (λ e. c.if-count-eq0.false (c.count.ensures ∙ e))) (skips _ _ _ (same _ _ c.if-over-ne0.false) (stops _ _ _ (omega arith) (differs _ _ (λ e. c.if-cells-cell_count.true (e ∙ sym c.cell_count.ensures)))))))

pub matrix_start-requires : goal.matrix_start-requires
unfolding answer_of
matrix_start-requires c = (laid_passed _ _ _ _ c.requires.0 (zero_by _ _ c.laid.ensures c.in_ok-laid.was), omega arith)

pub returns-then-places-matrix_start : goal.returns-then-places-matrix_start
unfolding cells_number answer_of settled refusal_of refusals
returns-then-places-matrix_start c = ap answer_of (skip _ _ (zero_by _ _ c.laid.ensures c.in_ok-laid.was) (skips _ _ _ (ne_eqb _ _ (λ e. c.if-count-eq0.false (c.count.ensures ∙ e))) (skips _ _ _ (same _ _ c.if-over-ne0.false) (skips _ _ _ (same _ _ (c.if-cells-cell_count.false ∙ c.cell_count.ensures)) (stops _ _ _ (omega arith) (differs _ _ (λ e. c.if-places-matrix_start.true (e ∙ sym (width-cells _ _ c.args.list.now _ c.matrix_start.ensures)))))))))

pub returns-then-not-canonical : goal.returns-then-not-canonical
unfolding cells_number answer_of settled refusal_of refusals
returns-then-not-canonical c = ap answer_of (skip _ _ (zero_by _ _ c.laid.ensures c.in_ok-laid.was) (skips _ _ _ (ne_eqb _ _ (λ e. c.if-count-eq0.false (c.count.ensures ∙ e))) (skips _ _ _ (same _ _ c.if-over-ne0.false) (skips _ _ _ (same _ _ (c.if-cells-cell_count.false ∙ c.cell_count.ensures)) (skips _ _ _ (same _ _ (c.if-places-matrix_start.false ∙ width-cells _ _ c.args.list.now _ c.matrix_start.ensures)) (sym (refused _ _ (ap not (sym c.canonical.ensures) ∙ (ap not c.if-not-canonical.true)))))))))

pub returns : goal.returns
unfolding cells_number answer_of settled refusal_of refusals
returns c = ap answer_of (skip _ _ (zero_by _ _ c.laid.ensures c.in_ok-laid.was) (skips _ _ _ (ne_eqb _ _ (λ e. c.if-count-eq0.false (c.count.ensures ∙ e))) (skips _ _ _ (same _ _ c.if-over-ne0.false) (skips _ _ _ (same _ _ (c.if-cells-cell_count.false ∙ c.cell_count.ensures)) (skips _ _ _ (same _ _ (c.if-places-matrix_start.false ∙ width-cells _ _ c.args.list.now _ c.matrix_start.ensures)) (sym (passed _ _ (ap not (sym c.canonical.ensures) ∙ (ap not c.if-not-canonical.false)))))))))
