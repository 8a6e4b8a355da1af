use Rattle.field.proofs.Elements.{canonical_words_lem}
use Rattle.prover.proofs.LineValues.{line_is}
use Rattle.prover.proofs.lines.line_at.Goals as goal

pub mul_add-requires : goal.mul_add-requires
mul_add-requires c = record { canonical = c.requires.canonical; canonical_2 = canonical_words_lem _ c.sub-d.ensures; canonical_3 = c.requires.canonical_3 }

pub returns : goal.returns
returns c = line_is _ _ _ c.sub-d.ensures c.mul_add.ensures
