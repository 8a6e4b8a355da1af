-- `plan_picture::picture::put_bars` meets its contract: a bar a turn.
use Prim.Native.Nat.{◌≤◌}
use Rattle.text.specs.Writing.{Put}
use Rattle.plan_picture.specs.Parts.{bar_at, in_turn}
use Rattle.plan_picture.proofs.picture.put_bars.Given as goal

abbrev pub invariant-loop-k : goal.invariant-loop-k
invariant-loop-k l = (l.k ≤ l.frame.width) × Put l.initial.page (in_turn (bar_at l.frame.width) l.k) l.page
