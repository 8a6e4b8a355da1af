use Rattle.verifier.proofs.ClaimTurns.{rotated_added, power_passed}
use Rattle.verifier.proofs.claims.add_rotated.Goals as goal

pub returns-then-flag-eq0 : goal.returns-then-flag-eq0
returns-then-flag-eq0 c = λ s p e. power_passed s p e _ c.mul-next.ensures _ _ c.if-flag-eq0.true

pub returns : goal.returns
returns c = λ s p e. rotated_added s p e _ c.mul-next.ensures _ _ c.if-flag-eq0.false c.load-rotated.ensures c.mul-x.ensures c.add-more.ensures
