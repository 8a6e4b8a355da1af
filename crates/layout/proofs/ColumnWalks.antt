-- A turn of a walk over a run's columns: the cursor stands at column k.
use mathlib.Core.Path.{◌≡◌, ◌∙◌, ap}
use mathlib.Core.List.{List}
use Prim.Native.Nat.{ℕ, ◌+◌, ◌<◌, ◌≤◌}
use native.Mathlib.Omega.{arith}
use Rattle.layout.specs.declared.columns.Column.{Column}
use Rattle.layout.specs.Triples.{count_of}
use Rattle.layout.specs.Columns.{column_at, walk_first, walk_next}
use Rattle.layout.specs.Walked.{Walked}
use Rattle.layout.proofs.InOrder.{walk_first_lem, walk_next_lem}
use Rattle.layout.proofs.RunLaws.{columns-within}

module _ {l n first columns : ℕ} {lists : List ℕ} (walk : Walked l n first lists columns) where
  pub columns_few : columns ≤ 16838656
  columns_few =
      let s = walk.laid.shaped in
      omega (arith, walk.all, columns-within lists s.widths (count_of lists) (omega arith), s.few)

  pub walk_start : (c : Column) → c ≡ walk_first l n first lists → c ≡ column_at l n first lists 0
  walk_start c e = e ∙ walk_first_lem l n first lists walk.laid

  pub walk_turn : (k : ℕ) (c d : Column) → k < columns → c ≡ column_at l n first lists k → d ≡ walk_next l n first lists c → d ≡ column_at l n first lists (k + 1)
  walk_turn k c d h e f = f ∙ ap (walk_next l n first lists) e ∙ walk_next_lem l n first lists walk.laid k (omega (arith, walk.all))
