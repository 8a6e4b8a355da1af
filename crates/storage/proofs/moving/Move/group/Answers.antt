use mathlib.Core.Path.{◌≡◌, sym, subst, ◌∙◌}
use lib.ListN.{length}
use Prim.Native.Nat.{ℕ, ◌+◌, ◌-◌, ◌*◌, ◌^◌, ◌<◌, ◌≤◌}
use native.Mathlib.Omega.{arith}
use Rattle.storage.specs.Moving.{Group, There, Route, Carried, Ways, part_of}
use Rattle.storage.specs.declared.moving.Grid.{Grid}
use Rattle.storage.specs.Reversed.{reversed}
use Rattle.storage.proofs.Groups.{part_begins, part_there, part_ways, steps_fit, group_turn, between_groups, group_end}
use Rattle.storage.proofs.moving.Move.group.Goals.{After-part-target, After-tile}
use Rattle.storage.proofs.moving.Move.group.Goals as goal

-- the two parts, and that they are there
source : (c : After-part-target) → c.part-source.result ≡ part_of c.args.self.from (2 ^ c.args.m * c.args.i) (reversed (c.args.self.bits - c.args.m) c.args.i) c.loop-c.c (2 ^ (c.args.self.bits - c.args.m))
source c = rw (c.pow2.ensures, c.reversal-y.ensures, c.pow2-step.ensures) at c.part-source.ensures

target : (c : After-part-target) → c.part-target.result ≡ part_of c.args.self.to (2 ^ c.args.m * c.args.i) (reversed (c.args.self.bits - c.args.m) c.args.i) c.loop-c.c (2 ^ (c.args.self.bits - c.args.m))
target c = rw (c.pow2.ensures, c.reversal-y.ensures, c.pow2-step.ensures) at c.part-target.ensures

pub part-source-requires : goal.part-source-requires
part-source-requires c =
    let b = between_groups c.args.self.bits c.args.m c.requires.1 c.requires.2 in
    let p = part_begins c.args.self.from c.args.m (c.args.self.bits - c.args.m) c.args.i c.loop-c.c c.args.self.width _ b.reads c.requires.4 c.loop-c-test.true in
    let s = steps_fit c.args.m (c.args.self.bits - c.args.m) c.args.self.from.turned b.bits b.narrow_from in
    rw (c.pow2.ensures, c.reversal-y.ensures, c.pow2-step.ensures) (omega (arith, p), s)

pub part-target-requires : goal.part-target-requires
part-target-requires c =
    let b = between_groups c.args.self.bits c.args.m c.requires.1 c.requires.2 in
    let p = part_begins c.args.self.to c.args.m (c.args.self.bits - c.args.m) c.args.i c.loop-c.c c.args.self.width _ b.writes c.requires.4 c.loop-c-test.true in
    let s = steps_fit c.args.m (c.args.self.bits - c.args.m) c.args.self.to.turned b.bits b.narrow_to in
    rw (c.pow2.ensures, c.reversal-y.ensures, c.pow2-step.ensures) (omega (arith, p), s)

pub tile-requires : goal.tile-requires
tile-requires c =
    let b = between_groups c.args.self.bits c.args.m c.requires.1 c.requires.2 in
    let n = c.min-n.result in
    let some : 0 < n = omega arith in
    let few : c.loop-c.c + n ≤ c.args.self.width = omega arith in
    let x = 2 ^ c.args.m * c.args.i in
    let y = reversed (c.args.self.bits - c.args.m) c.args.i in
    let k = 2 ^ (c.args.self.bits - c.args.m) in
    let e = source (goal.at.tile-requires c).After-part-target in
    let d = target (goal.at.tile-requires c).After-part-target in (
      c.requires.0,
      some,
      omega arith,
      subst (λ (g : Grid). There g c.args.m n (length c.args.from.now)) (sym e) (part_there c.args.self.from c.args.m (c.args.self.bits - c.args.m) c.args.i c.loop-c.c n c.args.self.width _ b.reads c.requires.4 few),
      subst (λ (g : Grid). There g c.args.m n (length c.loop-c.to)) (sym d)
          (subst (There (part_of c.args.self.to x y c.loop-c.c k) c.args.m n) (sym c.loop-c.invariant.1) (part_there c.args.self.to c.args.m (c.args.self.bits - c.args.m) c.args.i c.loop-c.c n c.args.self.width _ b.writes c.requires.4 few)),
      subst (λ (g : Grid). Ways c.args.self.storing g c.part-target.result) (sym e)
          (subst (λ (g : Grid). Ways c.args.self.storing (part_of c.args.self.from x y c.loop-c.c k) g) (sym d) (part_ways c.args.self.storing c.args.self.from c.args.self.to x y c.loop-c.c k c.requires.3)),
    )

-- what is moved after the tile, so many columns more
moved : (c : After-tile) (n : ℕ) → c.min-n.result ≡ n
    → Carried c.args.from.now (Route c.args.self.from c.args.self.to (c.args.m + (c.args.self.bits - c.args.m)) (Group c.args.m c.args.i) (c.loop-c.c + n)) c.args.to.now c.tile.new.to
moved c n k =
    let e = rw (c.pow2.ensures, c.reversal-y.ensures, c.pow2-step.ensures) at c.part-source.ensures in
    let d = rw (c.pow2.ensures, c.reversal-y.ensures, c.pow2-step.ensures) at c.part-target.ensures in
    group_turn c.args.from.now c.args.self.from c.args.self.to c.args.m (c.args.self.bits - c.args.m) c.args.i c.requires.4 c.loop-c.c n c.args.to.now c.loop-c.to c.tile.new.to c.loop-c.invariant.2 (rw (e, d, k) at c.tile.ensures)

pub loop-c-preserved : goal.loop-c-preserved
loop-c-preserved c = (omega arith, c.tile.auto.to ∙ c.loop-c.invariant.1, moved (goal.at.loop-c-preserved c).After-tile 16 (omega arith))

pub returns : goal.returns
returns c = group_end c.args.from.now c.args.self.from c.args.self.to c.args.self.bits c.args.m c.args.i c.args.self.width c.loop-c.c c.args.to.now c.loop-c.to c.requires.1 c.loop-c.invariant.0 c.loop-c-test.false c.loop-c.invariant.2

pub returns-2 : goal.returns-2
returns-2 c =
    let more = moved (goal.at.returns-2 c).After-tile (c.args.self.width - c.loop-c.c) (omega arith) in
    group_end c.args.from.now c.args.self.from c.args.self.to c.args.self.bits c.args.m c.args.i c.args.self.width _ c.args.to.now c.tile.new.to c.requires.1 (omega arith) (omega arith) more
