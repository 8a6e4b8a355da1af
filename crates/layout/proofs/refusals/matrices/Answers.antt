-- `refusals::matrices` meets its contract: each check's number in its turn. Assumes nothing.
use mathlib.Core.Path.{refl, ap, ◌∙◌}
use native.Mathlib.Omega.{arith}
use borrow.Author.Tests.{lt-ltb, le-ltb}
use Rattle.field.specs.Number.{settled, refusal_of, refusals}
use Rattle.layout.specs.Answers.{answer_of}
use Rattle.layout.specs.Refusals.{matrices_number}
use Rattle.layout.proofs.Answering.{zero_by, not_zero_by, refused_by}
use Rattle.layout.proofs.Firsts.{skip, stop, skips, stops}
use Rattle.layout.proofs.RunLaws.{columns-shaped}
use Rattle.layout.proofs.refusals.matrices.Goals as goal

pub returns-in_err-limits : goal.returns-in_err-limits
unfolding matrices_number answer_of
returns-in_err-limits c =
    refused_by _ _ _ _ c.limits.ensures c.in_err-limits.was c.from_residual.ensures.1
    (stop _ _ _ refl (not_zero_by _ _ c.limits.ensures c.in_err-limits.was))

pub returns-then-list-gt4111 : goal.returns-then-list-gt4111
unfolding matrices_number answer_of settled refusal_of refusals
returns-then-list-gt4111 c =
    ap answer_of (skip _ _ (zero_by _ _ c.limits.ensures c.in_ok-limits.was) (stops _ _ _ (omega arith) (lt-ltb _ _ c.if-list-gt4111.true)))

pub returns-in_err-flags : goal.returns-in_err-flags
unfolding matrices_number answer_of
returns-in_err-flags c =
    refused_by _ _ _ _ c.flags.ensures c.in_err-flags.was c.from_residual-in_err-flags.ensures.1
    (skip _ _ (zero_by _ _ c.limits.ensures c.in_ok-limits.was)
    (skips _ _ _ (le-ltb _ _ c.if-list-gt4111.false) (stop _ _ _ refl (not_zero_by _ _ c.flags.ensures c.in_err-flags.was))))

pub returns-in_err-columns : goal.returns-in_err-columns
unfolding matrices_number answer_of
returns-in_err-columns c =
    refused_by _ _ _ _ c.columns.ensures c.in_err-columns.was c.from_residual-in_err-columns.ensures.1
    (skip _ _ (zero_by _ _ c.limits.ensures c.in_ok-limits.was)
    (skips _ _ _ (le-ltb _ _ c.if-list-gt4111.false)
    (skip _ _ (zero_by _ _ c.flags.ensures c.in_ok-flags.was)
    (stop _ _ _ refl (not_zero_by _ _ c.columns.ensures c.in_err-columns.was)))))

pub laid-requires : goal.laid-requires
unfolding answer_of
laid-requires c =
    columns-shaped _ _ _ _ (zero_by _ _ c.limits.ensures c.in_ok-limits.was) c.if-list-gt4111.false
    (zero_by _ _ c.columns.ensures c.in_ok-columns.was)

pub returns : goal.returns
unfolding matrices_number answer_of
returns c =
    c.laid.ensures
    ∙ ap answer_of
    (skip _ _ (zero_by _ _ c.limits.ensures c.in_ok-limits.was)
    (skips _ _ _ (le-ltb _ _ c.if-list-gt4111.false)
    (skip _ _ (zero_by _ _ c.flags.ensures c.in_ok-flags.was)
    (skip _ _ (zero_by _ _ c.columns.ensures c.in_ok-columns.was) refl))))
