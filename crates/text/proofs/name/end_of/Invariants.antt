-- `text::name::end_of` meets its contract. Before turn i the word has not ended, and ends where the search from i on finds it.
use Prim.Native.Nat.{◌+◌}
use mathlib.Core.Path.{◌≡◌}
use lib.ListN.{drop}
use Rattle.text.specs.Names.{head_length}
use Rattle.text.proofs.name.end_of.Given as goal

abbrev pub invariant-loop-i : goal.invariant-loop-i
invariant-loop-i l = l.at + head_length (drop l.at l.names) ≡ l.i + head_length (drop l.i l.names)
