use Rattle.verifier.proofs.VerdictLaws.{last_no, last_yes}
use Rattle.verifier.proofs.stacked_reduction.last_verdict.Goals as goal

pub returns-then-same : goal.returns-then-same
returns-then-same c = last_yes _ _ c.carried_claim-claim.ensures c.final_sum-sum.ensures c.same.ensures c.if-same.true

pub returns-else-same : goal.returns-else-same
returns-else-same c = last_no _ _ c.carried_claim-claim.ensures c.final_sum-sum.ensures c.same.ensures c.if-same.false
