-- `moving::Move::rearrange` meets its contract: the first i groups of rows are moved. Assumes nothing.
use Prim.Native.Nat.{◌*◌, ◌^◌, ◌≤◌, ◌<◌}
use mathlib.Core.Path.{◌≡◌}
use lib.ListN.{length}
use Rattle.storage.specs.Moving.{Route, Carried}
use Rattle.storage.proofs.moving.Move.rearrange.Given as goal

abbrev pub invariant-loop-i : goal.invariant-loop-i
invariant-loop-i l = (l.i ≤ l.n) × (length l.to ≡ length l.initial.to) × Carried l.from (Route l.self.from l.self.to l.self.bits (λ b. b < 2 ^ l.m * l.i) l.self.width) l.initial.to l.to
