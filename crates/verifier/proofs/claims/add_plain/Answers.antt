use Rattle.verifier.proofs.ClaimTurns.{claim_added}
use Rattle.verifier.proofs.claims.add_plain.Goals as goal

pub returns : goal.returns
returns c = λ s p e. claim_added s p e _ c.mul-next.ensures _ c.load-plain.ensures c.mul-x.ensures c.add-more.ensures
