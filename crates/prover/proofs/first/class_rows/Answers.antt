use Rattle.std.proofs.Common.{sym, ◌∙◌, true≢false, arith}
use Rattle.layout.proofs.ColumnWalks.{walk_start}
use Rattle.weights.proofs.PowerWalks.{power_start}
use Rattle.prover.proofs.ClassTurns.{zero_is, summed_none, classing_turn, class-asks, classing_end}
use Rattle.prover.proofs.first.class_rows.Goals.{then-any, else-any}
use Rattle.prover.proofs.first.class_rows.Goals as goal

pub loop-k-init : goal.loop-k-init
loop-k-init c = record {
  inside = omega arith;
  column = walk_start c.requires.taken.placed.walked _ c.walk_first-c.ensures;
  power_is = λ lambda s. power_start _ c.from_word-power.ensures;
  sums = λ lambda s. summed_none _ _ _ _ _ _ c.args.source.now.matrices.now _ c.two_to-rows.ensures.value c.requires.u_len c.requires.f_len c.requires.g_len zero_is c.fill.ensures c.fill-2.ensures c.fill-3.ensures;
  none = λ z lambda k h. absurd (omega arith);
}

pub add_column-there-requires : goal.add_column-there-requires
add_column-there-requires c = let whole = class-asks _ _ _ _ _ _ _ _ _ c.requires.taken.placed c.requires.taken.r_len c.requires.taken.r_value c.requires.taken.matrices_len c.requires.order_le_l_skip c.loop-k.invariant c.loop-k-test.true _ c.square-step.ensures in record { l_skip_bound = whole.0; l_skip_in_bounds = whole.1.0; l_skip_in_bounds_2 = whole.1.1.0; r_value = whole.1.1.1.0; canonical = whole.1.1.1.1.0; elements = whole.1.1.1.1.1.0; elements_2 = whole.1.1.1.1.1.1.0; elements_3 = whole.1.1.1.1.1.1.1 }

pub loop-k-preserved : goal.loop-k-preserved
loop-k-preserved c = classing_turn _ _ _ _ _ _ _ _ _ c.requires.taken.placed c.loop-k.invariant c.loop-k-test.true c.add_column-there.ensures.log_nonzero c.add_column-there.ensures.column_rows (elim c.if-any.branch [ then-any w ↦ (λ e. absurd (true≢false (sym w.if-any.true ∙ sym w.any-is ∙ e))) | else-any w ↦ (λ e. (w.if-any.false, sym w.any-is ∙ e)) ]) c.mul-p.ensures c.walk_next-c.ensures

pub returns : goal.returns
returns c = let whole = classing_end _ _ _ _ _ _ _ _ _ c.loop-k.invariant c.loop-k-test.false _ c.square-step.ensures in record { missing = whole.0; summed = whole.1 }
