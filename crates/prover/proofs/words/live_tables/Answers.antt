use Rattle.std.proofs.Common.{ap, ◌∙◌, le_antisymm, arith}
use Rattle.prover.specs.CallNumbers.{live_tables}
use Rattle.prover.proofs.SlotLaws.{slots_rise}
use Rattle.prover.proofs.WordChecks.{live_start, live-room, live_bad, live_fine}
use mathlib.Core.Bool.{not}
use Rattle.prover.proofs.words.live_tables.Goals.{then-not-canonical_part, else-not-canonical_part}
use Rattle.prover.proofs.words.live_tables.Goals as goal

pub loop-h-init : goal.loop-h-init
loop-h-init c = (omega arith, live_start _ _ _ _)

pub overflow_sub-heights : goal.overflow_sub-heights
overflow_sub-heights c = slots_rise c.requires.slots c.loop-h.h (omega arith)

pub canonical_part-requires : goal.canonical_part-requires
canonical_part-requires c =
    live-room c.requires.slots c.args.t.now c.args.folds c.loop-h.h c.loop-h-test.true _ c.live_entries-n.ensures c.requires.t_len

pub loop-h-preserved : goal.loop-h-preserved
loop-h-preserved c =
    let slots = c.requires.slots in
    let below = c.loop-h-test.true in
    let count = c.live_entries-n.ensures in
    let v = c.loop-h.invariant.1 in
    let scan = c.canonical_part.ensures in
    (omega arith, elim c.if-not-canonical_part.branch [ then-not-canonical_part w ↦ live_bad slots _ _ _ below _ count v scan (ap not w.if-not-canonical_part.true) w.ok-is | else-not-canonical_part w ↦ live_fine slots _ _ _ below _ count v scan (ap not w.if-not-canonical_part.false) w.ok-is ])

pub returns : goal.returns
returns c =
    let a = c.args in
    c.loop-h.invariant.1 ∙ ap (live_tables a.heights.l_skip a.heights.lists.now a.folds a.t.now) (le_antisymm c.loop-h.invariant.0 c.loop-h-test.false)
