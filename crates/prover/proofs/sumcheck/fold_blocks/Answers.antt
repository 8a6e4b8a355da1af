use Rattle.std.proofs.Common.{sym, ◌∙◌}
use borrow.Author.Tests.{not-true, not-false}
use Rattle.prover.proofs.StartCalls.{zeros_canonical}
use Rattle.prover.proofs.CheckedFolds.{least_inside, block_words, fill_room, block_room, before_start, before_turn, before_end, before_bad}
use mathlib.Core.Path.{ap}
use mathlib.Core.Bool.{not}
use Rattle.prover.proofs.sumcheck.fold_blocks.Goals as goal

pub loop-y-init : goal.loop-y-init
loop-y-init c = before_start _ _ _ _ _ _

pub fill-requires : goal.fill-requires
fill-requires c = record { n_in_bounds = fill_room _ _ _ _ _ _ c.loop-y.invariant c.requires.out_len; canonical = zeros_canonical }

pub returns-then-not-canonical : goal.returns-then-not-canonical
returns-then-not-canonical c =
    let a = c.args in
    before_bad _ _ _ _ _ _ c.loop-y.invariant c.requires.q_len c.loop-y-test.true c.requires.steps c.fill.ensures _ (least_inside a.step c.loop-y-test.true c.min-m.ensures) c.requires.out_len (sym c.canonical.ensures ∙ not-true _ (ap not c.if-not-canonical.true))

pub fold_rows-requires : goal.fold_rows-requires
fold_rows-requires c =
    let a = c.args in
    record { groups_bound = c.requires.groups_bound; words = block_words _ _ _ _ _ c.requires.q_len (least_inside a.step c.loop-y-test.true c.min-m.ensures) (sym c.canonical.ensures ∙ not-false _ (ap not c.if-not-canonical.false)); k_value = c.requires.k_value; rows_in_bounds = block_room _ _ _ _ _ _ _ c.loop-y.invariant c.requires.out_len (least_inside a.step c.loop-y-test.true c.min-m.ensures) }

pub loop-y-preserved : goal.loop-y-preserved
loop-y-preserved c = before_turn _ _ _ _ _ _ c.loop-y.invariant c.loop-y-test.true c.min-m.ensures (sym c.canonical.ensures ∙ not-false _ (ap not c.if-not-canonical.false)) c.fold_rows.ensures

pub returns : goal.returns
returns c = before_end _ _ _ _ _ _ c.loop-y.invariant c.requires.q_len c.loop-y-test.false
