use mathlib.Core.Path.{sym}
use Rattle.field.proofs.Slices.{put_past, put_is}
use Rattle.field.proofs.slice.store.Goals as goal

pub returns-then-xs-i : goal.returns-then-xs-i
returns-then-xs-i c = sym (put_past _ _ _ c.if-xs-i.true)

pub returns : goal.returns
returns c =
    put_is _ _ _ c.canonical-c.ensures c.put_word.ensures c.put_word-2.ensures c.put_word-3.ensures c.put_word-4.ensures
