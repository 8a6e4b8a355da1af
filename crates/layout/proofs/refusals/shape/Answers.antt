-- `refusals::shape` meets its contract: each check's number in its turn. Assumes nothing.
use mathlib.Core.Path.{refl, ap, ◌∙◌}
use native.Mathlib.Omega.{arith}
use borrow.Author.Tests.{lt-ltb, le-ltb}
use Rattle.field.specs.Number.{settled, refusal_of, refusals}
use Rattle.layout.specs.Answers.{answer_of}
use Rattle.layout.specs.Refusals.{shape_number}
use Rattle.layout.proofs.Answering.{zero_by, not_zero_by, refused_by}
use Rattle.layout.proofs.Firsts.{skip, stop, skips, stops}
use Rattle.layout.proofs.refusals.shape.Goals as goal

pub returns-in_err-limits : goal.returns-in_err-limits
unfolding shape_number answer_of
returns-in_err-limits c =
    refused_by _ _ _ _ c.limits.ensures c.in_err-limits.was c.from_residual.ensures.1
    (stop _ _ _ refl (not_zero_by _ _ c.limits.ensures c.in_err-limits.was))

pub returns-then-m-gt4096 : goal.returns-then-m-gt4096
unfolding shape_number answer_of settled refusal_of refusals
returns-then-m-gt4096 c =
    ap answer_of (skip _ _ (zero_by _ _ c.limits.ensures c.in_ok-limits.was) (stops _ _ _ (omega arith) (lt-ltb _ _ c.if-m-gt4096.true)))

pub returns-in_err-flags : goal.returns-in_err-flags
unfolding shape_number answer_of
returns-in_err-flags c =
    refused_by _ _ _ _ c.flags.ensures c.in_err-flags.was c.from_residual-in_err-flags.ensures.1
    (skip _ _ (zero_by _ _ c.limits.ensures c.in_ok-limits.was)
    (skips _ _ _ (le-ltb _ _ c.if-m-gt4096.false) (stop _ _ _ refl (not_zero_by _ _ c.flags.ensures c.in_err-flags.was))))

pub returns : goal.returns
unfolding shape_number answer_of
returns c =
    c.columns.ensures
    ∙ ap answer_of
    (skip _ _ (zero_by _ _ c.limits.ensures c.in_ok-limits.was)
    (skips _ _ _ (le-ltb _ _ c.if-m-gt4096.false) (skip _ _ (zero_by _ _ c.flags.ensures c.in_ok-flags.was) refl)))
