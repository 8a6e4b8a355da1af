-- `plan_text::put_plan` meets its contract: a record a turn.
use Prim.Native.Nat.{ℕ, ◌+◌, ◌*◌, ◌/◌, ◌≤◌}
use mathlib.Core.Path.{◌≡◌}
use lib.ListN.{length, drop}
use Rattle.std.specs.Iterator.Adapters.{take_source, take_count}
use Rattle.std.specs.Slice.Iter.{chunks_exact_size, chunks_exact_rest}
use Rattle.std.specs.declared.result.Result.TheVariants.{Ok}
use Rattle.layout.specs.declared.stacked_pcs.StackedLayout.{StackedLayout}
use Rattle.text.specs.Writing.{Put}
use Rattle.plan_text.specs.Printing.{record_lines}
use Rattle.plan_text.proofs.put_plan.Given as goal

abbrev pub invariant-loop-record : goal.invariant-loop-record
invariant-loop-record l =
    (layout : StackedLayout) × (l.fn.p ≡ Ok layout)
    × (k : ℕ) × (k ≤ length l.records / 2) × (take_count l.record-iterator + k ≡ layout.columns)
    × (chunks_exact_size (take_source l.record-iterator) ≡ 2) × (chunks_exact_rest (take_source l.record-iterator) ≡ drop (2 * k) l.records)
    × Put l.initial.page (record_lines l.records k) l.page
