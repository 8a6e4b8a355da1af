use Prim.Native.Nat.{◌-◌, ◌<◌, ◌≤◌, ◌^◌}
use mathlib.Core.Path.{◌≡◌}
use lib.ListN.{length}
use Rattle.storage.specs.Moving.{Carried, Route}
use Rattle.storage.proofs.moving.Move.by_columns.Given as goal

abbrev pub invariant-loop-c : goal.invariant-loop-c
invariant-loop-c l = (l.c ≤ l.self.width) × (length l.to ≡ length l.initial.to) × Carried l.from (Route l.self.from l.self.to l.self.bits (λ b. b < 2 ^ l.self.bits) l.c) l.initial.to l.to

abbrev pub decreases-loop-c : goal.decreases-loop-c
decreases-loop-c l = l.self.width - l.c
