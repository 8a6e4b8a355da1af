use Rattle.weights.proofs.ClaimCounts.{claims_one, claims_two}
use Rattle.weights.proofs.claims.claims_of.Goals as goal

pub returns-then-flag-eq0 : goal.returns-then-flag-eq0
returns-then-flag-eq0 c = claims_one _ c.if-flag-eq0.true

pub returns-else-flag-eq0 : goal.returns-else-flag-eq0
returns-else-flag-eq0 c = claims_two _ c.if-flag-eq0.false
