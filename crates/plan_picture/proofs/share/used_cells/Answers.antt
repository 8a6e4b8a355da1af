use Prim.Native.Nat.{◌+◌}
use mathlib.Core.Path.{◌≡◌, refl, ap, ◌∙◌}
use native.Mathlib.Omega.{arith}
use lib.ListN.{get_or}
use Rattle.std.specs.Iterator.Adapters.{take_count}
use Rattle.text.proofs.Chunks.{chunk_next, chunk_at, chunk_within, pairs_end}
use Rattle.plan_picture.specs.Share.{used_cells}
use Rattle.plan_picture.proofs.Scales.{rows-small}
use Rattle.plan_picture.proofs.Shares.{used_next, used_low}
use Rattle.plan_picture.proofs.share.used_cells.Goals as goal

pub loop-record-init : goal.loop-record-init
unfolding used_cells
loop-record-init c =
    let e = c.into_iter-record-iterator.ensures.into_iter_gives in
    let t = c.take-record-items.ensures in
    let k = c.chunks_exact.ensures in
    let n = ap take_count e ∙ t.count in
    (0, omega arith, omega (arith, n), rw (e, t.source) k.size, rw (e, t.source) k.rest, refl)

pub overflow_add-n : goal.overflow_add-n
overflow_add-n c =
    let a = c.args in
    let l = c.loop-record in
    let i = l.invariant.0 in
    omega (arith, l.invariant.5, l.invariant.2, c.rows-n.ensures, used_low a.frame.l_skip a.records.now (omega arith) i, rows-small a.frame.l_skip (get_or c.in-Some.record.now 1 0) (omega arith))

pub loop-record-preserved : goal.loop-record-preserved
loop-record-preserved c =
    let a = c.args in
    let l = c.loop-record in
    let i = l.invariant.0 in
    let records = a.records.now in
    let s = c.in-Some.ensures.steps in
    let pair = c.in-Some.record.now in
    let full = s.0.1.1 ∙ l.invariant.3 in
    let low = chunk_within records 2 i _ pair _ l.invariant.4 s.0.1.0 full (omega arith) in
    let second = chunk_at records 2 i _ pair _ l.invariant.4 s.0.1.0 full 1 (omega arith) in (
      i + 1,
      omega (arith, low),
      omega (arith, s.1),
      s.0.0 ∙ l.invariant.3,
      chunk_next records 2 i _ pair _ l.invariant.4 s.0.1.0 full,
      used_next a.frame.l_skip records i l.n c.rows-n.result l.invariant.5 (rw second at c.rows-n.ensures),
    )

pub returns : goal.returns
returns c =
    let a = c.args in
    let l = c.loop-record in
    let h = c.in-None.ensures.steps in
    let i = l.invariant.0 in
    let m = pairs_end a.records.now _ _ i a.k l.invariant.4 l.invariant.2 l.invariant.1 (λ p. omega (arith, (h p).1.0, l.invariant.3)) in
    let e : i ≡ a.k = omega (arith, m) in
    (l.invariant.5 ∙ ap (used_cells _ _) e, omega (arith, l.invariant.5, used_low a.frame.l_skip a.records.now (omega arith) i))
