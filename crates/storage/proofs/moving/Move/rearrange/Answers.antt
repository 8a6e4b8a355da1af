use mathlib.Core.Path.{◌∙◌}
use Prim.Native.Nat.{◌-◌}
use native.Mathlib.Omega.{arith}
use Rattle.storage.proofs.Groups.{groups_turn, groups_end}
use Rattle.storage.proofs.moving.Move.rearrange.Goals as goal

pub loop-i-preserved : goal.loop-i-preserved
loop-i-preserved c = (
  omega arith,
  c.group.auto.to ∙ c.loop-i.invariant.1,
  groups_turn c.args.from.now c.args.self.from c.args.self.to c.args.self.bits c.args.self.width c.min-m.result c.loop-i.i c.args.to.now c.loop-i.to c.group.new.to c.loop-i.invariant.2 c.group.ensures,
)

pub returns : goal.returns
returns c =
    groups_end c.args.from.now c.args.self.from c.args.self.to c.args.self.bits c.args.self.width c.min-m.result c.loop-i.i (c.args.self.bits - c.min-m.result) c.args.to.now c.loop-i.to
    (omega arith) (omega (arith, c.pow2-n.ensures)) (omega (arith, c.pow2-n.ensures)) c.loop-i.invariant.2
