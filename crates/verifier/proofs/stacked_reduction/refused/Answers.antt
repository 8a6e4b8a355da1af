use Rattle.verifier.proofs.VerdictLaws.{refused-sides}
use Rattle.verifier.proofs.stacked_reduction.refused.Goals as goal

pub returns : goal.returns
returns c = refused-sides _
