use Rattle.prover.proofs.WordChecks.{part_scan}
use Rattle.prover.proofs.words.canonical_part.Goals as goal

pub returns : goal.returns
returns c =
    let a = c.args in
    part_scan a.xs.now a.at a.n c.canonical.ensures
