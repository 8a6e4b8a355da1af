use Rattle.std.proofs.Common.{ap, not, sym, ◌∙◌}
use Rattle.prover.specs.Given.{given_of}
use Rattle.prover.proofs.Refusing.{handed_on}
use Rattle.prover.proofs.MadePlans.{made-lists, made_turn, made-length, made_done}
use Rattle.prover.proofs.made.made_plan.Goals as goal

pub returns-in_err-run : goal.returns-in_err-run
returns-in_err-run c = handed_on _ _ _ c.from_residual.ensures.1 (made-lists (given_of c.args.given) _ (sym c.read_lists.ensures ∙ c.in_err-run.was))

pub returns-then-not-turned : goal.returns-then-not-turned
returns-then-not-turned c = made_turn (given_of c.args.given) _ _ (sym c.read_lists.ensures ∙ c.in_ok-run.was) (ap not c.if-not-turned.true)

pub returns-in_err-run-2 : goal.returns-in_err-run-2
returns-in_err-run-2 c = handed_on _ _ _ c.from_residual-in_err-run-2.ensures.1 (made-length (given_of c.args.given) _ _ (sym c.read_lists.ensures ∙ c.in_ok-run.was) (ap not c.if-not-turned.false) c.in_err-run-2.was)

pub returns : goal.returns
returns c = made_done (given_of c.args.given) _ _ (sym c.read_lists.ensures ∙ c.in_ok-run.was) (ap not c.if-not-turned.false) c.in_ok-run-2.was
