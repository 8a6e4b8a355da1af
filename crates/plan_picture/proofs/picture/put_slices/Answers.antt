use Prim.Native.Nat.{◌+◌}
use mathlib.Core.Path.{◌≡◌, ap, ◌∙◌}
use native.Mathlib.Omega.{arith}
use Rattle.std.specs.Iterator.Adapters.{take_count}
use Rattle.text.proofs.Chunks.{chunk_next, chunk_at, chunk_first, chunk_within, pairs_end}
use Rattle.plan_picture.proofs.Appending.{turn_start, turn_next}
use Rattle.plan_picture.proofs.picture.put_slices.Goals as goal

pub loop-record-init : goal.loop-record-init
loop-record-init c =
    let e = c.into_iter-record-iterator.ensures.into_iter_gives in
    let t = c.take-record-items.ensures in
    let k = c.chunks_exact.ensures in
    let n = ap take_count e ∙ t.count in
    (0, omega arith, omega (arith, n), rw (e, t.source) k.size, rw (e, t.source) k.rest, turn_start _ _)

pub loop-record-preserved : goal.loop-record-preserved
loop-record-preserved c =
    let l = c.loop-record in
    let i = l.invariant.0 in
    let records = c.args.records.now in
    let s = c.in-Some.ensures.steps in
    let pair = c.in-Some.record.now in
    let full = s.0.1.1 ∙ l.invariant.3 in
    let b = c.slice in
    let low = chunk_within records 2 i _ pair _ l.invariant.4 s.0.1.0 full (omega arith) in
    let first = chunk_first records 2 i _ pair _ l.invariant.4 s.0.1.0 full (omega arith) in
    let second = chunk_at records 2 i _ pair _ l.invariant.4 s.0.1.0 full 1 (omega arith) in (
      i + 1,
      omega (arith, low),
      omega (arith, s.1),
      s.0.0 ∙ l.invariant.3,
      chunk_next records 2 i _ pair _ l.invariant.4 s.0.1.0 full,
      turn_next _ _ i _ _ l.invariant.5 (rw (first, second) at b.ensures),
    )

pub returns : goal.returns
returns c =
    let a = c.args in
    let l = c.loop-record in
    let h = c.in-None.ensures.steps in
    let i = l.invariant.0 in
    let m = pairs_end a.records.now _ _ i a.k l.invariant.4 l.invariant.2 l.invariant.1 (λ p. omega (arith, (h p).1.0, l.invariant.3)) in
    let e : i ≡ a.k = omega (arith, m) in
    rw e at l.invariant.5
