use Rattle.std.proofs.Common.{sym, refl, ◌∙◌, arith}
use borrow.Author.Tests.{not-true, not-false}
use Rattle.prover.proofs.Writing.{written_cong}
use Rattle.prover.proofs.KernelRows.{order_is, order_small, order_short, order_whole, rows-length, whole_rows, short-rows, table_rows_lem}
use Rattle.prover.proofs.CheckedFolds.{checked_bad, checked_fine, checked_cong}
use mathlib.Core.Path.{ap}
use mathlib.Core.Bool.{not}
use Rattle.prover.proofs.sumcheck.fold_ple_evals.Goals as goal

pub kernels-k-requires : goal.kernels-k-requires
kernels-k-requires c = record { l_skip_bound = c.requires.l_skip_bound; n_value = order_is _ c.requires.l_skip_bound }

pub returns-then-not-canonical : goal.returns-then-not-canonical
returns-then-not-canonical c = checked_bad c.canonical.ensures (not-true _ (ap not c.if-not-canonical.true)) refl refl

pub fold_short_rows-requires : goal.fold_short_rows-requires
fold_short_rows-requires c = record { n_bound = order_short _ (order_is _ c.requires.l_skip_bound) c.if-n-lt4.true; words = whole_rows _ _ _ (order_is _ c.requires.l_skip_bound) c.requires.q_len (sym c.canonical.ensures ∙ not-false _ (ap not c.if-not-canonical.false)); k_value = c.kernels-k.ensures.canonical; rows_in_bounds = omega (arith, c.requires.out_len) }

pub returns-then-n-lt4 : goal.returns-then-n-lt4
returns-then-n-lt4 c = checked_fine c.canonical.ensures (not-false _ (ap not c.if-not-canonical.false)) refl (written_cong c.fold_short_rows.ensures (λ y h. short-rows _ _ c.kernels-k.ensures _ y (order_is _ c.requires.l_skip_bound)))

pub split-t-requires : goal.split-t-requires
split-t-requires c = record { groups_bound = omega (arith, order_small _ c.requires.l_skip_bound (order_is _ c.requires.l_skip_bound)); k_value = c.kernels-k.ensures.canonical }

pub step_of-step-requires : goal.step_of-step-requires
step_of-step-requires c = order_small _ c.requires.l_skip_bound (order_is _ c.requires.l_skip_bound)

pub fold_blocks-requires : goal.fold_blocks-requires
fold_blocks-requires c = record { groups_bound = omega (arith, order_small _ c.requires.l_skip_bound (order_is _ c.requires.l_skip_bound)); q_len = rows-length _ c.args.q.now _ (order_whole _ (order_is _ c.requires.l_skip_bound) c.if-n-lt4.false) c.requires.q_len; k_value = c.split-t.ensures.canonical; out_len = c.requires.out_len; steps = c.step_of-step.ensures }

pub returns : goal.returns
returns c = checked_cong c.fold_blocks.ensures (λ y h. table_rows_lem _ _ c.kernels-k.ensures _ y (order_whole _ (order_is _ c.requires.l_skip_bound) c.if-n-lt4.false) c.split-t.ensures)
