-- `rows::size` meets its contract: the numbers in their order. Assumes nothing.
use mathlib.Core.Path.{sym, ap}
use native.Mathlib.Omega.{arith}
use borrow.Author.Tests.{lt-ltb, le-ltb}
use Rattle.field.specs.Number.{settled, refusal_of, refusals}
use Rattle.layout.specs.Answers.{answer_of}
use Rattle.layout.proofs.Firsts.{skips, stops, passed, refused, differs, same}
use Rattle.storage.specs.Storing.{size_number}
use Rattle.storage.proofs.rows.size.Goals as goal

pub returns-then-height-gt16777216 : goal.returns-then-height-gt16777216
unfolding size_number answer_of settled refusal_of refusals
returns-then-height-gt16777216 c = ap answer_of (stops _ _ _ (omega arith) (lt-ltb _ _ c.if-height-gt16777216.true))

pub returns-then-width-gt4096 : goal.returns-then-width-gt4096
unfolding size_number answer_of settled refusal_of refusals
returns-then-width-gt4096 c =
    ap answer_of (skips _ _ _ (le-ltb _ _ c.if-height-gt16777216.false) (stops _ _ _ (omega arith) (lt-ltb _ _ c.if-width-gt4096.true)))

pub returns-then-height-ne1 : goal.returns-then-height-ne1
unfolding size_number answer_of settled refusal_of refusals
returns-then-height-ne1 c =
    ap answer_of (skips _ _ _ (le-ltb _ _ c.if-height-gt16777216.false)
    (skips _ _ _ (le-ltb _ _ c.if-width-gt4096.false) (sym (refused _ _ (differs _ _ c.if-height-ne1.true)))))

pub returns : goal.returns
unfolding size_number answer_of settled refusal_of refusals
returns c =
    ap answer_of (skips _ _ _ (le-ltb _ _ c.if-height-gt16777216.false)
    (skips _ _ _ (le-ltb _ _ c.if-width-gt4096.false) (sym (passed _ _ (same _ _ c.if-height-ne1.false)))))
