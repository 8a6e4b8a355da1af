use Rattle.prover.proofs.Writing.{put_words}
use Rattle.prover.proofs.elements.write.Goals as goal

pub returns : goal.returns
returns c = put_words _ _ _ c.requires.canonical
