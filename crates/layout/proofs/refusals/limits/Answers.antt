use mathlib.Core.Path.{sym, ap}
use native.Mathlib.Omega.{arith}
use borrow.Author.Tests.{lt-ltb, le-ltb}
use Rattle.field.specs.Number.{settled, refusal_of, refusals}
use Rattle.layout.specs.Answers.{answer_of}
use Rattle.layout.specs.Refusals.{limits_number}
use Rattle.layout.proofs.Firsts.{skips, stops, passed, refused}
use Rattle.layout.proofs.refusals.limits.Goals as goal

pub returns-then-l_skip-gt10 : goal.returns-then-l_skip-gt10
unfolding limits_number answer_of settled refusal_of refusals
returns-then-l_skip-gt10 c = ap answer_of (stops _ _ _ (omega arith) (lt-ltb _ _ c.if-l_skip-gt10.true))

pub returns-then-n_stack-gt20 : goal.returns-then-n_stack-gt20
unfolding limits_number answer_of settled refusal_of refusals
returns-then-n_stack-gt20 c = ap answer_of (skips _ _ _ (le-ltb _ _ c.if-l_skip-gt10.false) (stops _ _ _ (omega arith) (lt-ltb _ _ c.if-n_stack-gt20.true)))

pub returns-then-l_skip-n_stack-gt24 : goal.returns-then-l_skip-n_stack-gt24
unfolding limits_number answer_of settled refusal_of refusals
returns-then-l_skip-n_stack-gt24 c = ap answer_of (skips _ _ _ (le-ltb _ _ c.if-l_skip-gt10.false) (skips _ _ _ (le-ltb _ _ c.if-n_stack-gt20.false) (sym (refused _ _ (lt-ltb _ _ c.if-l_skip-n_stack-gt24.true)))))

pub returns : goal.returns
unfolding limits_number answer_of settled
returns c = ap answer_of (skips _ _ _ (le-ltb _ _ c.if-l_skip-gt10.false) (skips _ _ _ (le-ltb _ _ c.if-n_stack-gt20.false) (sym (passed _ _ (le-ltb _ _ c.if-l_skip-n_stack-gt24.false)))))
