use Rattle.field.proofs.Residues.{neg-residue}
use Rattle.field.proofs.word.neg.Goals as goal

pub returns : goal.returns
returns c = neg-residue c.args.a
