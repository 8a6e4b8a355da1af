-- `stacked_pcs::stacked_matrix` meets its contract. Assumes nothing.
use Prim.Native.Nat.{ℕ, ◌*◌, ◌≤◌}
use mathlib.Core.List.{List}
use mathlib.Core.Path.{◌≡◌, ap, subst, refl, sym, ◌∙◌}
use native.Mathlib.Omega.{arith}
use lib.ListN.{length, take}
use Rattle.layout.specs.Answers.{answer_of}
use Rattle.layout.specs.Planning.{laid_out}
use Rattle.layout.specs.Triples.{count_of, column_count}
use Rattle.layout.specs.Logs.{logged}
use Rattle.layout.specs.Shaped.{Shaped}
use Rattle.layout.specs.Stacking.{trace_number, stacked_of}
use Rattle.layout.proofs.Answering.{zero_by, not_zero_by, refused_by}
use Rattle.layout.proofs.Traces.{logged-length, trace_shaped, trace_few, stacking_refused, whole_done, into_refused', into_done', logs_front}
use Rattle.layout.proofs.stacked_pcs.stacked_matrix.Goals.{After-log_list}
use Rattle.layout.proofs.stacked_pcs.stacked_matrix.Goals as goal

passed_first : (c : After-log_list) → trace_number c.args.l_skip c.args.n_stack c.args.traces.now ≡ 0
unfolding answer_of
passed_first c = zero_by _ _ c.trace_number.ensures c.in_ok-trace_number.was

front : (c : After-log_list) → take (3 * count_of c.args.traces.now) c.log_list.new.out ≡ logged c.args.traces.now
front c = logs_front c.args.traces.now _ _ _ c.log_list.ensures refl

pub returns-in_err-trace_number : goal.returns-in_err-trace_number
unfolding stacked_of laid_out answer_of
returns-in_err-trace_number c = let h = not_zero_by _ _ c.trace_number.ensures c.in_err-trace_number.was in (refused_by _ _ _ _ c.trace_number.ensures c.in_err-trace_number.was c.from_residual.ensures.1 (stacking_refused _ _ _ _ _ h), into_refused' _ _ _ _ _ h)

pub log_list-requires : goal.log_list-requires
unfolding answer_of
log_list-requires c = omega (arith, trace_few _ _ _ (zero_by _ _ c.trace_number.ensures c.in_ok-trace_number.was))

pub slice_bounds-logs-end : goal.slice_bounds-logs-end
slice_bounds-logs-end c = omega (arith, c.log_list.auto.out, trace_few _ _ _ (passed_first (goal.at.slice_bounds-logs-end c).After-log_list))

pub slice_bounds-stack-end : goal.slice_bounds-stack-end
slice_bounds-stack-end c = sym (ap length (front (goal.at.slice_bounds-stack-end c).After-log_list) ∙ logged-length c.args.traces.now)

pub stack-requires : goal.stack-requires
stack-requires c = subst (λ (x : List ℕ). Shaped c.args.l_skip c.args.n_stack x × (column_count x ≤ 4096)) (sym (front (goal.at.stack-requires c).After-log_list)) (trace_shaped _ _ _ (passed_first (goal.at.stack-requires c).After-log_list))

pub returns : goal.returns
returns c = (
  whole_done _ _ _ _ _ _ _ _ (passed_first (goal.at.returns c).After-log_list) (front (goal.at.returns c).After-log_list) refl c.stack.ensures.0,
  into_done' _ _ _ _ _ _ _ _ (passed_first (goal.at.returns c).After-log_list) (front (goal.at.returns c).After-log_list) refl c.stack.ensures.1,
)
