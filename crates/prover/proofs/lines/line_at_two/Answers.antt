use Rattle.field.proofs.Elements.{canonical_words_lem}
use Rattle.prover.proofs.LineValues.{line_two_is}
use Rattle.prover.proofs.lines.line_at_two.Goals as goal

pub add-requires : goal.add-requires
add-requires c = record { canonical = canonical_words_lem _ c.sub-step.ensures; canonical_2 = c.requires.canonical_2 }

pub returns : goal.returns
returns c = line_two_is _ _ c.sub-step.ensures c.add.ensures
