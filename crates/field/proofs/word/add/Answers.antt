use Rattle.field.proofs.Residues.{sum-residue}
use Rattle.field.proofs.word.add.Goals as goal

pub returns : goal.returns
returns c = sum-residue c.args.a c.args.b
