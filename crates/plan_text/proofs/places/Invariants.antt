-- `plan_text::places` meets its contract: a matrix a turn.
use Prim.Native.Nat.{ℕ, ◌*◌, ◌/◌, ◌≤◌, min}
use mathlib.Core.Path.{◌≡◌}
use lib.ListN.{length, drop}
use Rattle.std.specs.Slice.Iter.{chunks_exact_size, chunks_exact_rest}
use Rattle.layout.specs.Triples.{columns_before}
use Rattle.plan_text.proofs.places.Given as goal

abbrev pub invariant-loop-matrix : goal.invariant-loop-matrix
invariant-loop-matrix l =
    (i : ℕ) × (i ≤ length l.list / 3) × (chunks_exact_size l.matrix-iterator ≡ 3) × (chunks_exact_rest l.matrix-iterator ≡ drop (3 * i) l.list)
    × (l.most ≡ min 4096 (l.room / 2)) × (l.n ≡ min l.most (columns_before l.list i))
