use Rattle.field.proofs.Slices.{words_past, read_is}
use Rattle.field.proofs.slice.load.Goals as goal

pub returns-then-xs-i : goal.returns-then-xs-i
returns-then-xs-i c = words_past _ _ c.if-xs-i.true

pub returns : goal.returns
returns c =
    read_is _ _ c.word_at.ensures c.word_at-2.ensures c.word_at-3.ensures c.word_at-4.ensures c.canonical.ensures
