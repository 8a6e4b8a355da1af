use Rattle.field.specs.Number.{settled, refusal_of, refusals}
use Rattle.layout.specs.Answers.{answer_of}
use Rattle.layout.proofs.CheckChains.{scan_skip, scan_stop, scan_no, scan_yes}
use Rattle.prover.specs.CallNumbers.{point_number}
use mathlib.Core.Path.{ap}
use mathlib.Core.Bool.{not}
use Rattle.prover.proofs.words.point_number.Goals as goal

pub returns-then-not-canonical : goal.returns-then-not-canonical
unfolding point_number answer_of settled refusal_of refusals
returns-then-not-canonical c = ap answer_of (scan_stop _ _ c.canonical.ensures (ap not c.if-not-canonical.true))

pub returns-then-not-canonical_four : goal.returns-then-not-canonical_four
unfolding point_number answer_of settled refusal_of refusals
returns-then-not-canonical_four c = ap answer_of (scan_skip _ _ c.canonical.ensures (ap not c.if-not-canonical.false) (scan_no _ c.canonical_four.ensures (ap not c.if-not-canonical_four.true)))

pub returns : goal.returns
unfolding point_number answer_of settled refusal_of refusals
returns c = ap answer_of (scan_skip _ _ c.canonical.ensures (ap not c.if-not-canonical.false) (scan_yes _ c.canonical_four.ensures (ap not c.if-not-canonical_four.false)))
