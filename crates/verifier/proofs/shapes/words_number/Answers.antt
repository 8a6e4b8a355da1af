use Rattle.field.specs.Number.{settled, refusal_of, refusals}
use Rattle.layout.specs.Answers.{answer_of}
use Rattle.layout.proofs.CheckChains.{scan_skip, scan_stop, scan_no, scan_yes}
use Rattle.verifier.specs.Numbers.{words_number}
use mathlib.Core.Path.{ap}
use mathlib.Core.Bool.{not}
use Rattle.verifier.proofs.shapes.words_number.Goals.{
  then-not-canonical-via-then-not-canonical,
  then-not-canonical-via-else-not-canonical+then-not-canonical_four,
  then-not-canonical-via-else-not-canonical+else-not-canonical_four+then-not-canonical-2,
  then-not-canonical-via-else-not-canonical+else-not-canonical_four+else-not-canonical-2+then-not-canonical-3,
  then-not-canonical-via-else-not-canonical+else-not-canonical_four+else-not-canonical-2+else-not-canonical-3+then-not-canonical-4,
  then-not-canonical-via-else-not-canonical+else-not-canonical_four+else-not-canonical-2+else-not-canonical-3+else-not-canonical-4+then-not-canonical-5,
  then-not-canonical-via-else-not-canonical+else-not-canonical_four+else-not-canonical-2+else-not-canonical-3+else-not-canonical-4+else-not-canonical-5+then-not-canonical-6,
}
use Rattle.verifier.proofs.shapes.words_number.Goals as goal

pub returns-then-not-canonical : goal.returns-then-not-canonical
unfolding words_number answer_of settled refusal_of refusals
returns-then-not-canonical c =
    elim c.then-not-canonical.branch [
      | then-not-canonical-via-then-not-canonical w ↦ ap answer_of (scan_stop _ _ c.canonical.ensures (ap not w.if-not-canonical.true))
      | then-not-canonical-via-else-not-canonical+then-not-canonical_four w ↦ ap answer_of (scan_skip _ _ c.canonical.ensures (ap not w.if-not-canonical.false) (scan_stop _ _ w.canonical_four.ensures (ap not w.if-not-canonical_four.true)))
      | then-not-canonical-via-else-not-canonical+else-not-canonical_four+then-not-canonical-2 w ↦ ap answer_of (scan_skip _ _ c.canonical.ensures (ap not w.if-not-canonical.false) (scan_skip _ _ w.canonical_four.ensures (ap not w.if-not-canonical_four.false) (scan_stop _ _ w.canonical-else-not-canonical_four.ensures (ap not w.if-not-canonical-2.true))))
      | then-not-canonical-via-else-not-canonical+else-not-canonical_four+else-not-canonical-2+then-not-canonical-3 w ↦ ap answer_of (scan_skip _ _ c.canonical.ensures (ap not w.if-not-canonical.false) (scan_skip _ _ w.canonical_four.ensures (ap not w.if-not-canonical_four.false) (scan_skip _ _ w.canonical-else-not-canonical_four.ensures (ap not w.if-not-canonical-2.false) (scan_stop _ _ w.canonical-else-not-canonical-2.ensures (ap not w.if-not-canonical-3.true)))))
      | then-not-canonical-via-else-not-canonical+else-not-canonical_four+else-not-canonical-2+else-not-canonical-3+then-not-canonical-4 w ↦ ap answer_of (scan_skip _ _ c.canonical.ensures (ap not w.if-not-canonical.false) (scan_skip _ _ w.canonical_four.ensures (ap not w.if-not-canonical_four.false) (scan_skip _ _ w.canonical-else-not-canonical_four.ensures (ap not w.if-not-canonical-2.false) (scan_skip _ _ w.canonical-else-not-canonical-2.ensures (ap not w.if-not-canonical-3.false) (scan_stop _ _ w.canonical-else-not-canonical-3.ensures (ap not w.if-not-canonical-4.true))))))
      | then-not-canonical-via-else-not-canonical+else-not-canonical_four+else-not-canonical-2+else-not-canonical-3+else-not-canonical-4+then-not-canonical-5 w ↦ ap answer_of (scan_skip _ _ c.canonical.ensures (ap not w.if-not-canonical.false) (scan_skip _ _ w.canonical_four.ensures (ap not w.if-not-canonical_four.false) (scan_skip _ _ w.canonical-else-not-canonical_four.ensures (ap not w.if-not-canonical-2.false) (scan_skip _ _ w.canonical-else-not-canonical-2.ensures (ap not w.if-not-canonical-3.false) (scan_skip _ _ w.canonical-else-not-canonical-3.ensures (ap not w.if-not-canonical-4.false) (scan_stop _ _ w.canonical-else-not-canonical-4.ensures (ap not w.if-not-canonical-5.true)))))))
      | then-not-canonical-via-else-not-canonical+else-not-canonical_four+else-not-canonical-2+else-not-canonical-3+else-not-canonical-4+else-not-canonical-5+then-not-canonical-6 w ↦ ap answer_of (scan_skip _ _ c.canonical.ensures (ap not w.if-not-canonical.false) (scan_skip _ _ w.canonical_four.ensures (ap not w.if-not-canonical_four.false) (scan_skip _ _ w.canonical-else-not-canonical_four.ensures (ap not w.if-not-canonical-2.false) (scan_skip _ _ w.canonical-else-not-canonical-2.ensures (ap not w.if-not-canonical-3.false) (scan_skip _ _ w.canonical-else-not-canonical-3.ensures (ap not w.if-not-canonical-4.false) (scan_skip _ _ w.canonical-else-not-canonical-4.ensures (ap not w.if-not-canonical-5.false) (scan_no _ w.canonical-else-not-canonical-5.ensures (ap not w.if-not-canonical-6.true))))))))
    ]

pub returns : goal.returns
unfolding words_number answer_of settled refusal_of refusals
returns c = ap answer_of (scan_skip _ _ c.canonical.ensures (ap not c.if-not-canonical.false) (scan_skip _ _ c.canonical_four.ensures (ap not c.if-not-canonical_four.false) (scan_skip _ _ c.canonical-else-not-canonical_four.ensures (ap not c.if-not-canonical-2.false) (scan_skip _ _ c.canonical-else-not-canonical-2.ensures (ap not c.if-not-canonical-3.false) (scan_skip _ _ c.canonical-else-not-canonical-3.ensures (ap not c.if-not-canonical-4.false) (scan_skip _ _ c.canonical-else-not-canonical-4.ensures (ap not c.if-not-canonical-5.false) (scan_yes _ c.canonical-else-not-canonical-5.ensures (ap not c.if-not-canonical-6.false))))))))
