use mathlib.Core.Path.{◌≡◌}
use lib.ListN.{take}
use Rattle.field.specs.Slice.{canonical_words}
use Rattle.field.proofs.slice.canonical.Given as goal

abbrev pub invariant-loop-x : goal.invariant-loop-x
invariant-loop-x l = l.ok ≡ canonical_words (take l.x-index l.xs)
