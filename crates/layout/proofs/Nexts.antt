-- Which cursors are columns of a list: those of which `is_placed` holds, and each is column `index_of`. So `next_column` goes from column k to
-- column k + 1 and ends from every other cursor. Assumes nothing.
use Prim.Native.Nat.{ℕ, zero, suc, ◌+◌, ◌-◌, ◌*◌, ◌^◌, ◌<◌, ◌≤◌}
use mathlib.Core.Path.{◌≡◌, refl, sym, ap, ◌∙◌}
use mathlib.Core.Bool.{Bool, true, false, cond, ◌&&◌}
use mathlib.Core.List.{List}
use native.Mathlib.Decide.{ℕ_discrete}
use native.Mathlib.Omega.{arith}
use lib.Dec.{ltb, eqb}
use borrow.Author.Tests.{lt-ltb, le-ltb, eq-eqb, ne_eqb, eqb-true}
use Rattle.layout.specs.declared.columns.Column.{Column}
use Rattle.layout.specs.Triples.{count_of, width_at, log_at, flag_at, columns_before, column_count}
use Rattle.layout.specs.Placing.{slice_length, matrix_start, column_start}
use Rattle.layout.specs.Refusals.{matrices_number}
use Rattle.layout.specs.Columns.{column_of, end_mark, located, column_at, is_column, is_placed, index_of, first_column, next_column, walk_first, walk_next}
use Rattle.layout.specs.Shaped.{Laid}
use Rattle.layout.proofs.Firsts.{and_left, and_right, and_all, and_yes, and_no}
use Rattle.layout.proofs.Walks.{stands}
use Rattle.layout.proofs.Bounds.{Found, column-found}
use Rattle.layout.proofs.InOrder.{is_column_lem, start_bound, columns-small, walk_first_lem, walk_next_lem}
use Rattle.layout.proofs.MatricesPass.{matrices_laid}

module _ (list : List ℕ) where
  before_later : (i t : ℕ) → i ≤ t → columns_before list i ≤ columns_before list t
  unfolding columns_before
  before_later i zero h =
      let e : i ≡ 0 = omega arith in
      omega (arith, ap (columns_before list) e)
  before_later i (suc t) h = by_case (ℕ_discrete i (suc t)) (before_later i t)
    where
      by_case : Dec (i ≡ suc t) → (i ≤ t → columns_before list i ≤ columns_before list t) → columns_before list i ≤ columns_before list t + width_at list t
      by_case (yes e) rest = omega (arith, ap (columns_before list) e)
      by_case (no e) rest = omega (arith, rest (omega arith))

  -- the columns of matrix i come before those of the matrices after it
  pub before_after : (i t : ℕ) → i < t → columns_before list i + width_at list i ≤ columns_before list t
  unfolding columns_before
  before_after i t h = omega (arith, before_later (suc i) t h)

abbrev made : Column → ℕ → ℕ → ℕ → Column
made c log flag start = record { matrix = c.matrix; column = c.column; start = start; log = log; flag = flag }

module _ (l n first : ℕ) (list : List ℕ) where
  located_at : (t j : ℕ) → t < count_of list → j < width_at list t → (r i k : ℕ) → r + i ≡ count_of list → i ≤ t → columns_before list i + k ≡ columns_before list t + j
      → located l n first list r i k ≡ column_of l n first list t j
  unfolding located columns_before
  located_at t j p q zero i k h a e = absurd (omega arith)
  located_at t j p q (suc r) i k h a e = by_case (ℕ_discrete i t) (located_at t j p q r (suc i) (k - width_at list i))
    where
      by_case : Dec (i ≡ t)
          → (r + suc i ≡ count_of list → suc i ≤ t → columns_before list (suc i) + (k - width_at list i) ≡ columns_before list t + j
          → located l n first list r (suc i) (k - width_at list i) ≡ column_of l n first list t j)
          → cond (ltb k (width_at list i)) (column_of l n first list i k) (located l n first list r (suc i) (k - width_at list i)) ≡ column_of l n first list t j
      by_case (yes f) rest =
          let g : k ≡ j = omega (arith, ap (columns_before list) f) in
          let w = ap (width_at list) f in
          simp (lt-ltb k (width_at list i) (omega (arith, w))) (ap (λ (x : ℕ). column_of l n first list x k) f ∙ ap (column_of l n first list t) g)
      by_case (no f) rest =
          let b = before_after list i t (omega arith) in
          simp (le-ltb k (width_at list i) (omega (arith, b))) (rest (omega arith) (omega arith) (omega (arith, b)))

  -- a cursor at a column where it is placed is that column
  pub placed_at : (c : Column) → is_placed l n first list c ≡ true → c ≡ column_at l n first list (index_of list c)
  unfolding is_placed columns_before
  placed_at c e =
      let a = stands list c (and_left (is_column list c) _ e) in
      same_column c a.log a.flag (eqb-true _ _ (and_right (is_column list c) _ e))
      ∙ sym (located_at c.matrix c.column a.there a.column (count_of list) 0 (index_of list c) (omega arith) (omega arith) (omega arith))
    where
      same_column : (c : Column) → log_at list c.matrix ≡ c.log → flag_at list c.matrix ≡ c.flag
          → c.start ≡ column_start l n first list c.matrix c.column → c ≡ column_of l n first list c.matrix c.column
      same_column c log flag start =
          ap (made c c.log c.flag) start
          ∙ (ap (λ (x : ℕ). made c x c.flag (column_start l n first list c.matrix c.column)) (sym log)
          ∙ ap (λ (x : ℕ). made c (log_at list c.matrix) x (column_start l n first list c.matrix c.column)) (sym flag))

  -- one of the list's
  pub placed_among : (c : Column) → is_placed l n first list c ≡ true → index_of list c < column_count list
  unfolding is_placed
  placed_among c e =
      let a = stands list c (and_left (is_column list c) _ e) in
      omega (arith, a.column, before_after list c.matrix (count_of list) a.there)

  -- and each column of the list is one
  pub at_placed : (k : ℕ) → k < column_count list → (is_placed l n first list (column_at l n first list k) ≡ true) × (index_of list (column_at l n first list k) ≡ k)
  unfolding is_placed
  at_placed k h = of_found (column-found l n first list k h)
    where
      of_found : {c : Column} → Found l n first list k c → (is_placed l n first list c ≡ true) × (index_of list c ≡ k)
      of_found {c} f =
          let d = f.is in (
            ap (is_placed l n first list) d
                ∙ and_all _ _ (is_column_lem l n first list f.matrix f.column f.there f.within)
                (eq-eqb (column_start l n first list f.matrix f.column) (column_start l n first list f.matrix f.column) refl),
            ap (index_of list) d ∙ f.index,
          )

pub placed_none : (l n first : ℕ) (list : List ℕ) (c : Column) → is_column list c ≡ false → false ≡ is_placed l n first list c
unfolding is_placed
placed_none l n first list c e = and_no (is_column list c) _ e

-- the same by the numbers that `is_placed` has
module _ (l n first : ℕ) (list : List ℕ) (ok : Laid l n list) (c : Column) (at : is_column list c ≡ true) (s len : ℕ) (is : s ≡ matrix_start l n first list c.matrix) (long : len ≡ slice_length l c.log) where
  offset : c.column * len ≡ c.column * slice_length l (log_at list c.matrix)
  offset = ap (λ (x : ℕ). c.column * x) (long ∙ ap (slice_length l) (sym (stands list c at).log))

  pub offset_small : c.column * len ≤ 2 ^ 36
  offset_small =
      let a = stands list c at in
      omega (arith, offset, columns-small l n first list ok c.matrix c.column a.there a.column)

  pub end_small : s + c.column * len ≤ 2 ^ 60
  end_small =
      let a = stands list c at in
      omega (arith, is, offset_small, ok.shaped.few, start_bound l n first list ok c.matrix (omega (arith, a.there)), a.there)

  pub placed_is : eqb c.start (s + c.column * len) ≡ is_placed l n first list c
  unfolding is_placed
  placed_is =
      let e : s + c.column * len ≡ column_start l n first list c.matrix c.column = omega (arith, is, offset) in
      and_yes (is_column list c) _ at (ap (eqb c.start) e)

module _ (l n first : ℕ) (list : List ℕ) where
  pub first_refused : (matrices_number l n first list ≡ 0 → ⊥) → end_mark list ≡ first_column l n first list
  unfolding first_column
  first_refused e = simp (ne_eqb (matrices_number l n first list) 0 e)

  pub first_passed : matrices_number l n first list ≡ 0 → walk_first l n first list ≡ first_column l n first list
  unfolding first_column
  first_passed e = walk_first_lem l n first list (matrices_laid l n first list e) ∙ sym (simp (eq-eqb (matrices_number l n first list) 0 e))

  pub next_refused : (c : Column) → (matrices_number l n first list ≡ 0 → ⊥) → end_mark list ≡ next_column l n first list c
  unfolding next_column
  next_refused c e = simp (ne_eqb (matrices_number l n first list) 0 e)

  pub next_stray : (c : Column) → is_placed l n first list c ≡ false → end_mark list ≡ next_column l n first list c
  unfolding next_column
  next_stray c e = by_case (eqb (matrices_number l n first list) 0)
    where
      by_case : (t : Bool) → end_mark list ≡ cond (t && is_placed l n first list c) (column_at l n first list (index_of list c + 1)) (end_mark list)
      by_case true = simp e
      by_case false = refl

  pub next_passed : (c : Column) → matrices_number l n first list ≡ 0 → is_placed l n first list c ≡ true → walk_next l n first list c ≡ next_column l n first list c
  unfolding next_column
  next_passed c e f =
      ap (walk_next l n first list) (placed_at l n first list c f)
      ∙ (walk_next_lem l n first list (matrices_laid l n first list e) (index_of list c) (placed_among l n first list c f)
      ∙ sym (simp (eq-eqb (matrices_number l n first list) 0 e, f)))

  -- the column after column k is column k + 1
  pub next_of_column : matrices_number l n first list ≡ 0 → (k : ℕ) → k < column_count list → next_column l n first list (column_at l n first list k) ≡ column_at l n first list (k + 1)
  unfolding next_column
  next_of_column e k h = let p = at_placed l n first list k h in simp (eq-eqb (matrices_number l n first list) 0 e, p.0, p.1)

  -- and from a cursor that is no column of the list the walk ends
  pub next_of_none : (c : Column) → ((k : ℕ) → k < column_count list → c ≡ column_at l n first list k → ⊥) → next_column l n first list c ≡ end_mark list
  next_of_none c e = by_case (is_placed l n first list c) refl
    where
      by_case : (t : Bool) → is_placed l n first list c ≡ t → next_column l n first list c ≡ end_mark list
      by_case true f = absurd (e (index_of list c) (placed_among l n first list c f) (placed_at l n first list c f))
      by_case false f = sym (next_stray c f)
