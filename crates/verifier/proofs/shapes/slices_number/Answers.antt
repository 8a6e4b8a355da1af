use mathlib.Core.Path.{ap}
use Rattle.field.specs.Number.{settled, refusal_of, refusals}
use Rattle.layout.specs.Answers.{answer_of}
use Rattle.layout.proofs.CheckChains.{length_skip, length_stop, length_no, length_yes}
use Rattle.verifier.specs.Numbers.{slices_number}
use Rattle.verifier.proofs.SliceCounts.{coefficients_are, coefficients-not}
use Rattle.verifier.proofs.shapes.slices_number.Goals.{
  then-asked-n-via-then-asked-n,
  then-asked-n-via-else-asked-n+then-asked-n-2,
  then-asked-n-via-else-asked-n+else-asked-n-2+then-asked-claims,
  then-asked-n-via-else-asked-n+else-asked-n-2+else-asked-claims+then-coefficients-order,
  then-asked-n-via-else-asked-n+else-asked-n-2+else-asked-claims+else-coefficients-order+then-pairs-n,
  then-asked-n-via-else-asked-n+else-asked-n-2+else-asked-claims+else-coefficients-order+else-pairs-n+then-openings-stacked,
  then-asked-n-via-else-asked-n+else-asked-n-2+else-asked-claims+else-coefficients-order+else-pairs-n+else-openings-stacked+then-observed-coefficients,
}
use Rattle.verifier.proofs.shapes.slices_number.Goals as goal

pub returns-then-asked-n : goal.returns-then-asked-n
unfolding slices_number answer_of settled refusal_of refusals
returns-then-asked-n c =
    elim c.then-asked-n.branch [
      | then-asked-n-via-then-asked-n w ↦ ap answer_of (length_stop _ _ _ w.if-asked-n.true)
      | then-asked-n-via-else-asked-n+then-asked-n-2 w ↦ ap answer_of (length_skip _ _ _ w.if-asked-n.false (length_stop _ _ _ w.if-asked-n-2.true))
      | then-asked-n-via-else-asked-n+else-asked-n-2+then-asked-claims w ↦ ap answer_of (length_skip _ _ _ w.if-asked-n.false (length_skip _ _ _ w.if-asked-n-2.false (length_stop _ _ _ w.if-asked-claims.true)))
      | then-asked-n-via-else-asked-n+else-asked-n-2+else-asked-claims+then-coefficients-order w ↦ ap answer_of (length_skip _ _ _ w.if-asked-n.false (length_skip _ _ _ w.if-asked-n-2.false (length_skip _ _ _ w.if-asked-claims.false (length_stop _ _ _ (coefficients-not _ _ c.requires.0 w.if-coefficients-order.true)))))
      | then-asked-n-via-else-asked-n+else-asked-n-2+else-asked-claims+else-coefficients-order+then-pairs-n w ↦ ap answer_of (length_skip _ _ _ w.if-asked-n.false (length_skip _ _ _ w.if-asked-n-2.false (length_skip _ _ _ w.if-asked-claims.false (length_skip _ _ _ (coefficients_are _ _ c.requires.0 w.if-coefficients-order.false) (length_stop _ _ _ w.if-pairs-n.true)))))
      | then-asked-n-via-else-asked-n+else-asked-n-2+else-asked-claims+else-coefficients-order+else-pairs-n+then-openings-stacked w ↦ ap answer_of (length_skip _ _ _ w.if-asked-n.false (length_skip _ _ _ w.if-asked-n-2.false (length_skip _ _ _ w.if-asked-claims.false (length_skip _ _ _ (coefficients_are _ _ c.requires.0 w.if-coefficients-order.false) (length_skip _ _ _ w.if-pairs-n.false (length_stop _ _ _ w.if-openings-stacked.true))))))
      | then-asked-n-via-else-asked-n+else-asked-n-2+else-asked-claims+else-coefficients-order+else-pairs-n+else-openings-stacked+then-observed-coefficients w ↦ ap answer_of (length_skip _ _ _ w.if-asked-n.false (length_skip _ _ _ w.if-asked-n-2.false (length_skip _ _ _ w.if-asked-claims.false (length_skip _ _ _ (coefficients_are _ _ c.requires.0 w.if-coefficients-order.false) (length_skip _ _ _ w.if-pairs-n.false (length_skip _ _ _ w.if-openings-stacked.false (length_no _ _ w.if-observed-coefficients.true)))))))
    ]

pub returns : goal.returns
unfolding slices_number answer_of settled refusal_of refusals
returns c = ap answer_of (length_skip _ _ _ c.if-asked-n.false (length_skip _ _ _ c.if-asked-n-2.false (length_skip _ _ _ c.if-asked-claims.false (length_skip _ _ _ (coefficients_are _ _ c.requires.0 c.if-coefficients-order.false) (length_skip _ _ _ c.if-pairs-n.false (length_skip _ _ _ c.if-openings-stacked.false (length_yes _ _ c.if-observed-coefficients.false)))))))
