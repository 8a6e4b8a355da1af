use Rattle.std.proofs.Common.{sym, ◌∙◌, true≢false}
use Rattle.prover.proofs.ClassTurns.{rows_other, rows-plain, rows-flagged, rows-turned, column_order, table_asks, turned-asks, table_leaves, turned-leaves}
use Rattle.prover.proofs.first.add_column.Goals as goal

pub returns-then-lifted-order : goal.returns-then-lifted-order
returns-then-lifted-order c = record { log_nonzero = λ _ e. c.if-lifted-order.true (column_order _ _ c.lifted.ensures c.lifted-2.ensures ∙ e); column_rows = rows_other _ _ _ _ _ _ _ _ _ _ _ c.requires.elements c.requires.elements_2 c.requires.elements_3 (λ e. c.if-lifted-order.true (column_order _ _ c.lifted.ensures c.lifted-2.ensures ∙ e)) }

pub table_rows-requires : goal.table_rows-requires
table_rows-requires c = let whole = table_asks _ _ c.lifted-lift.ensures c.two_to-rows.ensures.value (c.requires.l_skip_bound.0, c.requires.l_skip_bound.2) c.args.matrices.now _ c.args.power _ _ c.requires.l_skip_in_bounds c.requires.l_skip_in_bounds_2 c.requires.r_value c.requires.canonical c.requires.elements in record { l_skip_bound = whole.0; count_in_bounds = whole.1.0; lift_in_bounds = whole.1.1.0; r_value = whole.1.1.1.0; canonical = whole.1.1.1.1.0; rows_in_bounds = whole.1.1.1.1.1.0; canonical_from = whole.1.1.1.1.1.1 }

pub returns-then-flag-eq0 : goal.returns-then-flag-eq0
returns-then-flag-eq0 c = record { log_nonzero = (λ e. absurd (true≢false e)); column_rows = rows-plain _ _ _ _ _ _ _ _ _ _ _ c.requires.elements c.requires.elements_2 c.requires.elements_3 (sym (column_order _ _ c.lifted.ensures c.lifted-2.ensures) ∙ c.if-lifted-order.false) c.if-flag-eq0.true (table_leaves _ _ c.lifted-lift.ensures c.two_to-rows.ensures.value (c.requires.l_skip_bound.0, c.requires.l_skip_bound.2) _ _ _ _ _ c.table_rows.ensures) }

pub table_rows-requires-2 : goal.table_rows-requires-2
table_rows-requires-2 c = let whole = table_asks _ _ c.lifted-lift.ensures c.two_to-rows.ensures.value (c.requires.l_skip_bound.0, c.requires.l_skip_bound.2) c.args.matrices.now _ c.args.power _ _ c.requires.l_skip_in_bounds c.requires.l_skip_in_bounds_2 c.requires.r_value c.requires.canonical c.requires.elements_2 in record { l_skip_bound = whole.0; count_in_bounds = whole.1.0; lift_in_bounds = whole.1.1.0; r_value = whole.1.1.1.0; canonical = whole.1.1.1.1.0; rows_in_bounds = whole.1.1.1.1.1.0; canonical_from = whole.1.1.1.1.1.1 }

pub returns-then-order-l_skip : goal.returns-then-order-l_skip
returns-then-order-l_skip c = record { log_nonzero = (λ e. absurd (true≢false e)); column_rows = rows-flagged _ _ _ _ _ _ _ _ _ _ _ c.requires.elements c.requires.elements_2 c.requires.elements_3 (sym (column_order _ _ c.lifted.ensures c.lifted-2.ensures) ∙ c.if-lifted-order.false) c.if-flag-eq0.false (table_leaves _ _ c.lifted-lift.ensures c.two_to-rows.ensures.value (c.requires.l_skip_bound.0, c.requires.l_skip_bound.2) _ _ _ _ _ c.table_rows-2.ensures) c.if-order-l_skip.true }

pub turned_rows-requires : goal.turned_rows-requires
turned_rows-requires c = let whole = turned-asks _ _ c.lifted-lift.ensures c.two_to-rows.ensures.value (c.requires.l_skip_bound.0, c.requires.l_skip_bound.2) c.args.matrices.now _ c.args.power _ _ c.requires.l_skip_in_bounds c.requires.l_skip_in_bounds_2 c.requires.r_value c.requires.canonical c.requires.elements_3 in record { l_skip_bound = whole.0; lift_in_bounds = whole.1.0; lift_in_bounds_2 = whole.1.1.0; r_value = whole.1.1.1.0; canonical = whole.1.1.1.1.0; rows_in_bounds = whole.1.1.1.1.1.0; canonical_from = whole.1.1.1.1.1.1 }

pub returns : goal.returns
returns c = record { log_nonzero = (λ e. absurd (true≢false e)); column_rows = rows-turned _ _ _ _ _ _ _ _ _ _ _ c.requires.elements c.requires.elements_2 c.requires.elements_3 (sym (column_order _ _ c.lifted.ensures c.lifted-2.ensures) ∙ c.if-lifted-order.false) c.if-flag-eq0.false (table_leaves _ _ c.lifted-lift.ensures c.two_to-rows.ensures.value (c.requires.l_skip_bound.0, c.requires.l_skip_bound.2) _ _ _ _ _ c.table_rows-2.ensures) (turned-leaves _ _ c.lifted-lift.ensures c.two_to-rows.ensures.value (c.requires.l_skip_bound.0, c.requires.l_skip_bound.2) _ _ _ _ _ c.turned_rows.ensures) }
