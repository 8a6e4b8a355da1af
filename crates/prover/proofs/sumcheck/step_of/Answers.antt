use Rattle.std.proofs.Common.{inr}
use borrow.Author.Tests.{not-false}
use Rattle.prover.proofs.CheckedFolds.{step-some}
use mathlib.Core.Path.{ap}
use mathlib.Core.Bool.{not}
use Rattle.prover.proofs.sumcheck.step_of.Goals as goal

pub returns : goal.returns
returns c = inr (step-some _ c.if-n-lt64.false c.requires, c.zeros.ensures (not-false _ (ap not c.if-not-zeros.false)))
