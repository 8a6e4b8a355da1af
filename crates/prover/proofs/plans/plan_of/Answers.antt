use Rattle.std.proofs.Common.{ap, not, sym, ◌∙◌, arith}
use Rattle.layout.specs.Answers.{answer_of}
use Rattle.layout.proofs.Answering.{zero_by}
use Rattle.prover.specs.Given.{given_of}
use Rattle.prover.proofs.Refusing.{handed_on}
use Rattle.prover.proofs.PlanLaws.{lists-refused, turn_refused, length-refused, lengths-refused, plan_limits, plan-small, plan_done}
use Rattle.prover.proofs.plans.plan_of.Goals as goal

pub returns-in_err-run : goal.returns-in_err-run
returns-in_err-run c = handed_on _ _ _ c.from_residual.ensures.1 (lists-refused (given_of c.args.given) _ _ _ _ _ _ (sym c.read_lists.ensures ∙ c.in_err-run.was))

pub returns-then-not-turned : goal.returns-then-not-turned
returns-then-not-turned c = turn_refused (given_of c.args.given) _ _ _ _ _ _ _ (sym c.read_lists.ensures ∙ c.in_ok-run.was) (ap not c.if-not-turned.true)

pub returns-in_err-run-2 : goal.returns-in_err-run-2
returns-in_err-run-2 c =
    handed_on _ _ _ c.from_residual-in_err-run-2.ensures.1
    (length-refused (given_of c.args.given) _ _ _ _ _ _ _ (sym c.read_lists.ensures ∙ c.in_ok-run.was) (ap not c.if-not-turned.false) c.in_err-run-2.was)

pub slots_of-slots-requires : goal.slots_of-slots-requires
slots_of-slots-requires c = plan_limits _ _ _ _ _ (sym c.read_lists.ensures ∙ c.in_ok-run.was) c.in_ok-run-2.was

pub overflow_add-size : goal.overflow_add-size
overflow_add-size c = omega (arith, plan_limits _ _ _ _ _ (sym c.read_lists.ensures ∙ c.in_ok-run.was) c.in_ok-run-2.was)

pub overflow_add-size-2 : goal.overflow_add-size-2
overflow_add-size-2 c = omega (arith, plan_limits _ _ _ _ _ (sym c.read_lists.ensures ∙ c.in_ok-run.was) c.in_ok-run-2.was)

pub bounds-slots-given : goal.bounds-slots-given
bounds-slots-given c = omega (arith, plan_limits _ _ _ _ _ (sym c.read_lists.ensures ∙ c.in_ok-run.was) c.in_ok-run-2.was)

pub overflow_shl-values : goal.overflow_shl-values
overflow_shl-values c = omega (arith, plan_limits _ _ _ _ _ (sym c.read_lists.ensures ∙ c.in_ok-run.was) c.in_ok-run-2.was)

pub lengths_number-requires : goal.lengths_number-requires
lengths_number-requires c = plan-small _ _ _ _ _ (sym c.read_lists.ensures ∙ c.in_ok-run.was) c.in_ok-run-2.was _ c.slots_of-slots.ensures

pub returns-in_err-lengths_number : goal.returns-in_err-lengths_number
returns-in_err-lengths_number c =
    handed_on _ _ _ c.from_residual-in_err-lengths_number.ensures.1
    (lengths-refused (given_of c.args.given) _ _ _ _ _ _ _ (sym c.read_lists.ensures ∙ c.in_ok-run.was) (ap not c.if-not-turned.false) c.in_ok-run-2.was _ c.slots_of-slots.ensures
    (sym c.lengths_number.ensures ∙ c.in_err-lengths_number.was))

pub returns : goal.returns
unfolding answer_of
returns c =
    plan_done (given_of c.args.given) _ _ _ _ _ _ _ (sym c.read_lists.ensures ∙ c.in_ok-run.was) (ap not c.if-not-turned.false) c.in_ok-run-2.was _ c.slots_of-slots.ensures
    (zero_by _ _ c.lengths_number.ensures c.in_ok-lengths_number.was)
