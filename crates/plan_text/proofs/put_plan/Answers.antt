use Prim.Native.Nat.{◌+◌}
use mathlib.Core.Path.{◌≡◌, sym, ap, ◌∙◌}
use native.Mathlib.Omega.{arith}
use Rattle.std.specs.Iterator.Adapters.{take_count}
use Rattle.text.proofs.Chunks.{chunk_next, chunk_at, chunk_first, chunk_within, pairs_end}
use Rattle.plan_text.proofs.Lines.{nothing, turn, tag_number, refused_print, planned_print}
use Rattle.plan_text.proofs.put_plan.Goals as goal

pub returns-in-Err : goal.returns-in-Err
returns-in-Err c = refused_print _ _ _ _ c.in-Err.is (rw (tag_number c.in-Err.refusal) at c.put_refused.ensures)

pub loop-record-init : goal.loop-record-init
loop-record-init c =
    let e = c.into_iter-record-iterator.ensures.into_iter_gives in
    let t = c.take-record-items.ensures in
    let k = c.chunks_exact.ensures in
    let n = ap take_count e ∙ t.count in
    (c.in-Ok.layout, c.in-Ok.is, 0, omega arith, omega (arith, n), rw (e, t.source) k.size, rw (e, t.source) k.rest, nothing _ _)

pub loop-record-preserved : goal.loop-record-preserved
loop-record-preserved c =
    let l = c.loop-record in
    let k = l.invariant.2 in
    let records = c.args.records.now in
    let s = c.in-Some.ensures.steps in
    let pair = c.in-Some.record.now in
    let full = s.0.1.1 ∙ l.invariant.5 in
    let q = c.put_record in
    let low = chunk_within records 2 k _ pair _ l.invariant.6 s.0.1.0 full (omega arith) in
    let first = chunk_first records 2 k _ pair _ l.invariant.6 s.0.1.0 full (omega arith) in
    let second = chunk_at records 2 k _ pair _ l.invariant.6 s.0.1.0 full 1 (omega arith) in (
      l.invariant.0,
      l.invariant.1,
      k + 1,
      omega (arith, low),
      omega (arith, s.1),
      s.0.0 ∙ l.invariant.5,
      chunk_next records 2 k _ pair _ l.invariant.6 s.0.1.0 full,
      turn _ _ _ _ k l.invariant.7 (rw (first, second) at q.ensures),
    )

pub returns-in-None : goal.returns-in-None
returns-in-None c =
    let l = c.loop-record in
    let h = c.in-None.ensures.steps in
    let a = c.args in
    let k = l.invariant.2 in
    let same : l.invariant.0 ≡ c.in-Ok.layout = search (sym l.invariant.1 ∙ c.in-Ok.is) in
    let e = pairs_end a.records.now _ _ k l.invariant.0.columns l.invariant.6 l.invariant.4 l.invariant.3 (λ p. omega (arith, (h p).1.0, l.invariant.5)) in
    planned_print a.p a.records.now _ _ c.in-Ok.is _ k (rw same at e) c.put_header.ensures l.invariant.7
