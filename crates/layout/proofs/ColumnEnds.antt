-- Every answer of the walk, whatever the list and the cursor, is the end or a column of the list, and no step goes back or stands still.
-- Assumes nothing.
use Prim.Native.Nat.{ℕ, zero, suc, ◌+◌, ◌-◌, ◌<◌, ◌≤◌}
use mathlib.Core.Path.{◌≡◌, refl, ap}
use mathlib.Core.Bool.{Bool, true, false, cond, ◌||◌}
use mathlib.Core.List.{List}
use mathlib.Core.Logic.{◌⊎◌, inl, inr}
use native.Mathlib.Omega.{arith}
use lib.Dec.{eqb, ltb}
use borrow.Author.Tests.{ltb-true, le-ltb, eqb-false}
use Rattle.layout.specs.declared.columns.Column.{Column}
use Rattle.layout.specs.Triples.{count_of, width_at, log_at, flag_at}
use Rattle.layout.specs.Placing.{slice_length, opened}
use Rattle.layout.specs.Columns.{column_end, end_mark, outside, oversized, is_column, strays, sought, walk_first, column_after, walk_next}
use Rattle.layout.proofs.Walks.{Inside, inside}

-- the end: past the last matrix
abbrev pub AtEnd : List ℕ → Column → Type 0
AtEnd list c = c ≡ column_end (count_of list) c.start

-- a column of the list, from matrix i on
pub record AtColumn (list : List ℕ) (i : ℕ) (c : Column) : Type 0 where
  pub from : i ≤ c.matrix
  pub there : c.matrix < count_of list
  pub column : c.column < width_at list c.matrix
  pub log : c.log ≡ log_at list c.matrix
  pub flag : c.flag ≡ flag_at list c.matrix

-- the next column of the same matrix, or one of a later matrix
abbrev pub Onward : Column → Column → Type 0
Onward c r = ((r.matrix ≡ c.matrix) × (r.column ≡ c.column + 1)) ⊎ (c.matrix < r.matrix)

either : (P : Column → Type 0) (t : Bool) (x y : Column) → (t ≡ true → P x) → (t ≡ false → P y) → P (cond t x y)
either P true x y f g = f refl
either P false x y f g = g refl

met : (t u : Bool) → u ≡ true → t || u ≡ true
met true u e = refl
met false u e = e

module _ (l n first : ℕ) (list : List ℕ) where
  sought_answers : (r i s : ℕ) → r + i ≡ count_of list
      → AtEnd list (sought l n first list r i s) ⊎ AtColumn list i (sought l n first list r i s)
  unfolding sought
  sought_answers zero i s h =
      let e : i ≡ count_of list = omega arith in
      inl (ap (λ (x : ℕ). column_end x s) e)
  sought_answers (suc r) i s h =
      either (λ c. AtEnd list c ⊎ AtColumn list i c) (eqb (width_at list i) 0) _ _
      (λ e. later (sought_answers r (suc i) (opened l n first (suc i) s) (omega arith)))
      (λ e. either (λ c. AtEnd list c ⊎ AtColumn list i c) (oversized l n (width_at list i) (log_at list i)) _ _ (λ o. inl refl)
      (λ o. inr (record { from = omega arith; there = omega arith; column = some (eqb-false _ _ e); log = refl; flag = refl })))
    where
      some : (width_at list i ≡ 0 → ⊥) → 0 < width_at list i
      some z = omega arith

      later : {c : Column} → AtEnd list c ⊎ AtColumn list (suc i) c → AtEnd list c ⊎ AtColumn list i c
      later (inl e) = inl e
      later (inr a) =
          inr (record { from = omega (arith, a.from); there = a.there; column = a.column; log = a.log; flag = a.flag })

  pub first_answers : AtEnd list (walk_first l n first list) ⊎ AtColumn list 0 (walk_first l n first list)
  unfolding walk_first
  first_answers =
      either (λ c. AtEnd list c ⊎ AtColumn list 0 c) (outside l n list) _ _ (λ o. inl refl)
      (λ o. sought_answers (count_of list) 0 0 (omega arith))

  after_answers : (c : Column) (s : ℕ) → Inside l n list c
      → AtEnd list (column_after l n first list c s) ⊎ (AtColumn list c.matrix (column_after l n first list c s) × Onward c (column_after l n first list c s))
  unfolding column_after
  after_answers c s k =
      either (λ r. AtEnd list r ⊎ (AtColumn list c.matrix r × Onward c r)) (ltb c.column (width_at list c.matrix - 1)) _ _
      (λ e. inr (
        record { from = omega arith; there = k.there; column = omega (arith, ltb-true c.column (width_at list c.matrix - 1) e); log = refl; flag = refl },
        inl (refl, refl),
      ))
      (λ e. later (sought_answers (count_of list - (c.matrix + 1)) (c.matrix + 1) (opened l n first (c.matrix + 1) s) (omega (arith, k.there))))
    where
      later : {r : Column} → AtEnd list r ⊎ AtColumn list (c.matrix + 1) r → AtEnd list r ⊎ (AtColumn list c.matrix r × Onward c r)
      later (inl e) = inl e
      later (inr a) =
          inr (record { from = omega (arith, a.from); there = a.there; column = a.column; log = a.log; flag = a.flag }, inr (omega (arith, a.from)))

  pub next_answers : (c : Column) → AtEnd list (walk_next l n first list c) ⊎ (AtColumn list c.matrix (walk_next l n first list c) × Onward c (walk_next l n first list c))
  unfolding walk_next
  next_answers c =
      either (λ r. AtEnd list r ⊎ (AtColumn list c.matrix r × Onward c r)) (strays l n list c) _ _ (λ o. inl refl)
      (λ o. after_answers c (c.start + slice_length l (log_at list c.matrix)) (inside l n list c o))

  -- past the last matrix the walk has ended
  no_column : (c : Column) → count_of list ≤ c.matrix → is_column list c ≡ false
  unfolding is_column
  no_column c h = simp (le-ltb c.matrix (count_of list) h)

  past_strays : (c : Column) → count_of list ≤ c.matrix → strays l n list c ≡ true
  unfolding strays
  past_strays c h = met (outside l n list) _ (simp (no_column c h))

  pub end_stays : (c : Column) → count_of list ≤ c.matrix → walk_next l n first list c ≡ end_mark list
  unfolding walk_next
  end_stays c h = simp (past_strays c h)
