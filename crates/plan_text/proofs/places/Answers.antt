use Prim.Native.Nat.{◌+◌, ◌*◌, ◌/◌}
use mathlib.Core.Path.{◌≡◌, ap, ◌∙◌}
use native.Mathlib.Omega.{arith}
use lib.ListN.{length, length-drop}
use Rattle.layout.specs.Triples.{columns_before}
use Rattle.text.proofs.Chunks.{chunk_next, chunk_first, chunk_within}
use Rattle.plan_text.proofs.Plans.{next_places, all_places}
use Rattle.plan_text.proofs.places.Goals as goal

pub loop-matrix-init : goal.loop-matrix-init
unfolding columns_before
loop-matrix-init c =
    let e = c.into_iter-matrix-iterator.ensures.into_iter_gives in
    let k = c.chunks_exact-matrix-items.ensures in
    (0, omega arith, ap (λ s. s.size) e ∙ k.size, ap (λ s. s.rest.now) e ∙ k.rest, omega (arith, c.min-most.ensures), omega arith)

pub loop-matrix-preserved : goal.loop-matrix-preserved
loop-matrix-preserved c =
    let l = c.loop-matrix in
    let i = l.invariant.0 in
    let list = c.args.list.now in
    let s = c.in-Some.ensures.steps in
    let chunk = c.in-Some.matrix.now in
    let first = chunk_first list 3 i _ chunk _ l.invariant.3 s.1.0 (s.1.1 ∙ l.invariant.2) (omega arith) in
    let low = chunk_within list 3 i _ chunk _ l.invariant.3 s.1.0 (s.1.1 ∙ l.invariant.2) (omega arith) in (
      i + 1,
      omega (arith, low),
      s.0 ∙ l.invariant.2,
      chunk_next list 3 i _ chunk _ l.invariant.3 s.1.0 (s.1.1 ∙ l.invariant.2),
      l.invariant.4,
      next_places list _ l.n i l.invariant.5 _ (rw first at c.min-n.ensures),
    )

pub returns : goal.returns
returns c =
    let l = c.loop-matrix in
    let i = l.invariant.0 in
    let a = c.args in
    let s = c.in-None.ensures.steps in
    let e : i ≡ length a.list.now / 3 = omega (arith, l.invariant.1, l.invariant.2, s.1.0, ap length l.invariant.3, length-drop (3 * i) a.list.now) in
    all_places a.list.now _ l.n i l.invariant.5 a.room l.invariant.4 e
