use Rattle.field.proofs.Residues.{product-residue}
use Rattle.field.proofs.word.mul.Goals as goal

pub returns : goal.returns
returns c = product-residue c.args.a c.args.b
