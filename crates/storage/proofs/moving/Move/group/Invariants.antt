-- `moving::Move::group` meets its contract: the rows of the first c columns are moved. Assumes nothing.
use Prim.Native.Nat.{◌+◌, ◌-◌, ◌≤◌}
use mathlib.Core.Path.{◌≡◌}
use lib.ListN.{length}
use Rattle.storage.specs.Moving.{Route, Carried, Group}
use Rattle.storage.proofs.moving.Move.group.Given as goal

abbrev pub invariant-loop-c : goal.invariant-loop-c
invariant-loop-c l = (l.c ≤ l.self.width) × (length l.to ≡ length l.initial.to) × Carried l.from (Route l.self.from l.self.to (l.m + (l.self.bits - l.m)) (Group l.m l.i) l.c) l.initial.to l.to

abbrev pub decreases-loop-c : goal.decreases-loop-c
decreases-loop-c l = l.self.width - l.c
