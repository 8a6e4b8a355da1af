use Prim.Native.Nat.{◌-◌, ◌<◌, ◌≤◌, ◌^◌}
use mathlib.Core.Path.{◌≡◌}
use lib.ListN.{length}
use Rattle.storage.specs.Moving.{Carried, Route}
use Rattle.storage.proofs.moving.Move.by_rows.Given as goal

abbrev pub invariant-loop-b : goal.invariant-loop-b
invariant-loop-b l = (l.b ≤ 2 ^ l.self.bits) × (length l.to ≡ length l.initial.to) × Carried l.from (Route l.self.from l.self.to l.self.bits (λ x. x < l.b) l.self.width) l.initial.to l.to

abbrev pub decreases-loop-b : goal.decreases-loop-b
decreases-loop-b l = l.n - l.b
