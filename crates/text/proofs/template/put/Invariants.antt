-- `text::template::put` meets its contract: a byte a turn.
use Prim.Native.Nat.{◌≤◌}
use mathlib.Core.Path.{◌≡◌}
use lib.ListN.{length}
use Rattle.text.proofs.Templates.{Putting}
use Rattle.text.proofs.template.put.Given as goal

abbrev pub invariant-loop-byte : goal.invariant-loop-byte
invariant-loop-byte l =
    (l.k ≤ l.byte-index) × (length l.out ≡ length l.initial.out) × Putting l.initial.out l.at l.template l.numbers l.byte-index l.k l.to l.out
