use Rattle.verifier.proofs.Copies.{all_observed}
use Rattle.verifier.proofs.observed.observe.Goals as goal

pub returns : goal.returns
returns c = all_observed c.args.coefficients.now c.args.pairs.now c.args.openings.now c.args.observed.now _ _ _ c.requires c.copy_into.ensures c.copy_into-2.ensures c.copy_into-3.ensures
