-- `stacked_pcs::getting` meets its contract: the numbers in their order. Assumes nothing.
use mathlib.Core.Path.{refl, sym, ap}
use native.Mathlib.Omega.{arith}
use borrow.Author.Tests.{le-leb, lt-leb}
use Rattle.field.specs.Number.{settled, refusal_of, refusals}
use Rattle.layout.specs.Answers.{answer_of}
use Rattle.layout.specs.Refusals.{triple_number}
use Rattle.layout.specs.Getting.{get_number}
use Rattle.layout.proofs.Answering.{zero_by, not_zero_by, refused_by}
use Rattle.layout.proofs.Firsts.{skip, stop, skips, stops, passed, refused, differs, same, at_most, above}
use Rattle.layout.proofs.stacked_pcs.getting.Goals as goal

pub returns-in_err-plan : goal.returns-in_err-plan
unfolding get_number triple_number answer_of
returns-in_err-plan c = refused_by _ _ _ _ c.plan.ensures c.in_err-plan.was c.from_residual.ensures.1 (stop _ _ _ refl (not_zero_by _ _ c.plan.ensures c.in_err-plan.was))

pub returns-then-list-ne0 : goal.returns-then-list-ne0
unfolding get_number triple_number answer_of settled refusal_of refusals
returns-then-list-ne0 c = ap answer_of (skip _ _ (zero_by _ _ c.plan.ensures c.in_ok-plan.was) (stops _ _ _ (omega arith) (differs _ _ c.if-list-ne0.true)))

pub returns-then-list-mat_idx : goal.returns-then-list-mat_idx
unfolding get_number triple_number answer_of settled refusal_of refusals
returns-then-list-mat_idx c = ap answer_of (skip _ _ (zero_by _ _ c.plan.ensures c.in_ok-plan.was) (skips _ _ _ (same _ _ c.if-list-ne0.false) (stops _ _ _ (omega arith) (le-leb _ _ c.if-list-mat_idx.true))))

pub returns-then-w-col_idx : goal.returns-then-w-col_idx
unfolding get_number triple_number answer_of settled refusal_of refusals
returns-then-w-col_idx c = ap answer_of (skip _ _ (zero_by _ _ c.plan.ensures c.in_ok-plan.was) (skips _ _ _ (same _ _ c.if-list-ne0.false) (skips _ _ _ (lt-leb _ _ c.if-list-mat_idx.false) (sym (refused _ _ (le-leb _ _ (at_most _ _ _ refl c.if-w-col_idx.true)))))))

pub returns : goal.returns
unfolding get_number triple_number answer_of settled refusal_of refusals
returns c = ap answer_of (skip _ _ (zero_by _ _ c.plan.ensures c.in_ok-plan.was) (skips _ _ _ (same _ _ c.if-list-ne0.false) (skips _ _ _ (lt-leb _ _ c.if-list-mat_idx.false) (sym (passed _ _ (lt-leb _ _ (above _ _ _ refl c.if-w-col_idx.false)))))))
