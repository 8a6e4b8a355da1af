-- `stacked_pcs::planning` meets its contract: the numbers in their order. Assumes nothing.
use Prim.Native.Nat.{ℕ, ◌*◌}
use mathlib.Core.Path.{refl, sym, ap, ◌∙◌}
use native.Mathlib.Omega.{arith}
use Rattle.field.specs.Number.{settled, refusal_of, refusals}
use Rattle.layout.specs.Answers.{answer_of}
use Rattle.layout.specs.Refusals.{triple_number}
use Rattle.layout.specs.Planning.{planning_number}
use Rattle.layout.proofs.Answering.{zero_by, not_zero_by, refused_by}
use Rattle.layout.proofs.Firsts.{differs, same, skip, stop, skips, stops, passed, refused}
use Rattle.layout.proofs.Passed.{plan-passed, planned-columns}
use Rattle.layout.proofs.stacked_pcs.planning.Goals as goal

pub returns-in_err-plan : goal.returns-in_err-plan
unfolding planning_number answer_of
returns-in_err-plan c = refused_by _ _ _ _ c.plan.ensures c.in_err-plan.was c.from_residual.ensures.1 (stop _ _ _ refl (not_zero_by _ _ c.plan.ensures c.in_err-plan.was))

pub returns-then-list-ne0 : goal.returns-then-list-ne0
unfolding planning_number triple_number answer_of settled refusal_of refusals
returns-then-list-ne0 c = ap answer_of (skip _ _ (zero_by _ _ c.plan.ensures c.in_ok-plan.was) (stops _ _ _ (omega arith) (differs _ _ c.if-list-ne0.true)))

pub count-requires : goal.count-requires
unfolding answer_of
count-requires c = planned-columns _ _ _ (plan-passed _ _ _ (zero_by _ _ c.plan.ensures c.in_ok-plan.was)).0

pub overflow_mul-count : goal.overflow_mul-count
unfolding answer_of
overflow_mul-count c = omega (arith, c.count.ensures, planned-columns _ _ _ (plan-passed _ _ _ (zero_by _ _ c.plan.ensures c.in_ok-plan.was)).0)

pub returns-then-places-count : goal.returns-then-places-count
unfolding planning_number triple_number answer_of settled refusal_of refusals
returns-then-places-count c = ap answer_of (skip _ _ (zero_by _ _ c.plan.ensures c.in_ok-plan.was) (skips _ _ _ (same _ _ c.if-list-ne0.false) (sym (refused _ _ (differs _ _ (λ e. c.if-places-count.true (e ∙ sym (ap (λ (k : ℕ). 2 * k) c.count.ensures))))))))

pub returns : goal.returns
unfolding planning_number triple_number answer_of settled refusal_of refusals
returns c = ap answer_of (skip _ _ (zero_by _ _ c.plan.ensures c.in_ok-plan.was) (skips _ _ _ (same _ _ c.if-list-ne0.false) (sym (passed _ _ (same _ _ (c.if-places-count.false ∙ ap (λ (k : ℕ). 2 * k) c.count.ensures))))))
