-- `plan_picture::picture::put_slices` meets its contract: a record a turn.
use Prim.Native.Nat.{ℕ, ◌+◌, ◌*◌, ◌/◌, ◌≤◌}
use mathlib.Core.Path.{◌≡◌}
use lib.ListN.{length, get_or, drop}
use Rattle.std.specs.Iterator.Adapters.{take_source, take_count}
use Rattle.std.specs.Slice.Iter.{chunks_exact_size, chunks_exact_rest}
use Rattle.text.specs.Writing.{Put}
use Rattle.plan_picture.specs.Parts.{drawn_slice, in_turn}
use Rattle.plan_picture.proofs.picture.put_slices.Given as goal

abbrev pub invariant-loop-record : goal.invariant-loop-record
invariant-loop-record l =
    (i : ℕ) × (i ≤ length l.records / 2) × (take_count l.record-iterator + i ≡ l.fn.k)
    × (chunks_exact_size (take_source l.record-iterator) ≡ 2) × (chunks_exact_rest (take_source l.record-iterator) ≡ drop (2 * i) l.records)
    × Put l.initial.page (in_turn (λ j. drawn_slice l.fn.frame.l_skip l.fn.frame.width l.fn.frame.height (get_or l.records (2 * j) 0) (get_or l.records (2 * j + 1) 0)) i) l.page
