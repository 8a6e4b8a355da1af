-- `plan_picture::share::used_cells` meets its contract.
use Prim.Native.Nat.{ℕ, ◌+◌, ◌*◌, ◌/◌, ◌≤◌}
use mathlib.Core.Path.{◌≡◌}
use lib.ListN.{length, drop}
use Rattle.std.specs.Iterator.Adapters.{take_source, take_count}
use Rattle.std.specs.Slice.Iter.{chunks_exact_size, chunks_exact_rest}
use Rattle.plan_picture.specs.Share.{used_cells}
use Rattle.plan_picture.proofs.share.used_cells.Given as goal

abbrev pub invariant-loop-record : goal.invariant-loop-record
invariant-loop-record l =
    (i : ℕ) × (i ≤ length l.records / 2) × (take_count l.record-iterator + i ≡ l.fn.k)
    × (chunks_exact_size (take_source l.record-iterator) ≡ 2) × (chunks_exact_rest (take_source l.record-iterator) ≡ drop (2 * i) l.records)
    × (l.n ≡ used_cells l.fn.frame.l_skip l.records i)
