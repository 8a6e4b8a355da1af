-- The walk over the columns: from one column of a list to the next. Assumes nothing.
use Prim.Native.Nat.{ℕ, suc, ◌+◌, ◌-◌, ◌*◌, ◌^◌, ◌<◌, ◌≤◌}
use mathlib.Core.Path.{◌≡◌, ◌∙◌}
use mathlib.Core.Bool.{true, false, not}
use mathlib.Core.List.{List}
use native.Mathlib.Nat.{sub-zero}
use native.Mathlib.Numerals.{add-one}
use native.Mathlib.Omega.{arith}
use lib.Dec.{ltb, eqb}
use lib.Pow.{pow_mono}
use borrow.Author.Tests.{lt-ltb, le-ltb, eq-eqb, ne_eqb, ltb-true, ltb-false, eqb-true, not-false}
use Rattle.layout.specs.declared.columns.Column.{Column}
use Rattle.layout.specs.Triples.{count_of, width_at, log_at, flag_at}
use Rattle.layout.specs.Placing.{slice_length, opened}
use Rattle.layout.specs.Refusals.{limits_number}
use Rattle.layout.specs.Columns.{column_from, column_end, end_mark, outside, oversized, is_column, strays, sought, walk_first, column_after, walk_next}
use Rattle.layout.proofs.Firsts.{or_left, or_right, and_left, and_right}
use Rattle.layout.proofs.Passed.{limits_passed}
use Rattle.layout.proofs.Slices.{slice-small, opened_least}

-- seeking, at a matrix that is there
module _ (l n first : ℕ) (list : List ℕ) (i s : ℕ) where
  pub sought_end : count_of list ≤ i → sought l n first list (count_of list - i) i s ≡ column_end i s
  unfolding sought
  sought_end h =
      let e : count_of list - i ≡ 0 = omega arith in
      simp e

  pub sought-some : i < count_of list → (width_at list i ≡ 0 → ⊥) → oversized l n (width_at list i) (log_at list i) ≡ false
      → sought l n first list (count_of list - i) i s ≡ column_from list i 0 s
  unfolding sought
  sought-some h w o =
      let e : count_of list - i ≡ suc (count_of list - (i + 1)) = omega arith in
      simp (e, ne_eqb (width_at list i) 0 w, o)

  pub sought-over : i < count_of list → (width_at list i ≡ 0 → ⊥) → oversized l n (width_at list i) (log_at list i) ≡ true
      → sought l n first list (count_of list - i) i s ≡ end_mark list
  unfolding sought
  sought-over h w o =
      let e : count_of list - i ≡ suc (count_of list - (i + 1)) = omega arith in
      simp (e, ne_eqb (width_at list i) 0 w, o)

  pub sought_empty : i < count_of list → width_at list i ≡ 0
      → sought l n first list (count_of list - i) i s ≡ sought l n first list (count_of list - (i + 1)) (i + 1) (opened l n first (i + 1) s)
  unfolding sought
  sought_empty h w =
      let e : count_of list - i ≡ suc (count_of list - (i + 1)) = omega arith in
      simp (e, eq-eqb (width_at list i) 0 w, add-one)

  -- the cells that may be skipped on the way
  pub seek_small : (next : ℕ) → l + n ≤ 24 → next ≡ opened l n first (i + 1) s → s ≤ 2 ^ 61 + i * 2 ^ 24 → next ≤ 2 ^ 61 + (i + 1) * 2 ^ 24
  seek_small next a e h = omega (arith, e, opened_least l n first (i + 1) s, pow_mono {i = l + n} {j = 24} a)

-- what a walk that did not stray knows
pub inside-sum : (l n : ℕ) (list : List ℕ) → outside l n list ≡ false → (l ≤ 10) × (l + n ≤ 24) × (count_of list ≤ 4111)
unfolding outside
inside-sum l n list e =
    let a = limits_passed l n (eqb-true _ _ (not-false _ (or_left (not (eqb (limits_number l n) 0)) _ e))) in
    (a.0, a.2, ltb-false _ _ (or_right (not (eqb (limits_number l n) 0)) _ e))

-- what is known of a cursor at a column
pub record Stands (list : List ℕ) (c : Column) : Type 0 where
  pub there : c.matrix < count_of list
  pub column : c.column < width_at list c.matrix
  pub log : log_at list c.matrix ≡ c.log
  pub flag : flag_at list c.matrix ≡ c.flag

pub stands : (list : List ℕ) (c : Column) → is_column list c ≡ true → Stands list c
unfolding is_column
stands list c e =
    let f = and_right (ltb c.matrix (count_of list)) _ e in
    let g = and_right (ltb c.column (width_at list c.matrix)) _ f in
    record {
      there = ltb-true _ _ (and_left (ltb c.matrix (count_of list)) _ e);
      column = ltb-true _ _ (and_left (ltb c.column (width_at list c.matrix)) _ f);
      log = eqb-true _ _ (and_left (eqb (log_at list c.matrix) c.log) _ g);
      flag = eqb-true _ _ (and_right (eqb (log_at list c.matrix) c.log) _ g);
    }

pub record Inside (l n : ℕ) (list : List ℕ) (c : Column) : Type 0 where
  pub skip : l ≤ 10
  pub sum : l + n ≤ 24
  pub few : count_of list ≤ 4111
  pub there : c.matrix < count_of list
  pub column : c.column < width_at list c.matrix
  pub log : log_at list c.matrix ≡ c.log
  pub flag : flag_at list c.matrix ≡ c.flag
  pub width : width_at list c.matrix ≤ 4096
  pub low : log_at list c.matrix ≤ l + n
  pub near : c.start ≤ 2 ^ 60

in_size : (l n w h : ℕ) → oversized l n w h ≡ false → (w ≤ 4096) × (h ≤ l + n)
unfolding oversized
in_size l n w h e = (ltb-false _ _ (or_left (ltb 4096 w) _ e), ltb-false _ _ (or_right (ltb 4096 w) _ e))

pub inside : (l n : ℕ) (list : List ℕ) (c : Column) → strays l n list c ≡ false → Inside l n list c
unfolding strays
inside l n list c e =
    let a = inside-sum l n list (or_left (outside l n list) _ e) in
    let b = or_right (outside l n list) _ e in
    let d = stands list c (not-false _ (or_left (not (is_column list c)) _ b)) in
    let h = or_right (not (is_column list c)) _ b in
    let o = in_size l n (width_at list c.matrix) c.log (or_left _ _ h) in
    record {
      skip = a.0;
      sum = a.1;
      few = a.2;
      there = d.there;
      column = d.column;
      log = d.log;
      flag = d.flag;
      width = o.0;
      low = omega (arith, o.1, d.log);
      near = ltb-false _ _ (or_right (oversized l n (width_at list c.matrix) c.log) _ h);
    }

-- the answers of `walk_next`, from what it computed
module _ (l n first : ℕ) (list : List ℕ) (c : Column) where
  pub next_strays : strays l n list c ≡ true → end_mark list ≡ walk_next l n first list c
  unfolding walk_next
  next_strays e = simp e

  module _ (w len : ℕ) (ok : strays l n list c ≡ false) (wide : w ≡ width_at list c.matrix) (long : len ≡ slice_length l (log_at list c.matrix)) where
    pub next_within : c.column < w - 1 → column_from list c.matrix (c.column + 1) (c.start + len) ≡ walk_next l n first list c
    unfolding walk_next column_after
    next_within h = simp (ok, lt-ltb c.column (width_at list c.matrix - 1) (omega arith), ← long)

    pub next_over : (open' : ℕ) (r : Column) → w - 1 ≤ c.column → open' ≡ opened l n first (c.matrix + 1) (c.start + len)
        → r ≡ sought l n first list (count_of list - (c.matrix + 1)) (c.matrix + 1) open' → r ≡ walk_next l n first list c
    unfolding walk_next column_after
    next_over open' r h e f = simp (ok, le-ltb c.column (width_at list c.matrix - 1) (omega arith), ← long, ← e) f

    pub next_small : len ≤ 2 ^ 24
    next_small =
        let i = inside l n list c ok in
        omega (arith, long, slice-small l (log_at list c.matrix) 24 (omega (arith, i.skip)) (omega (arith, i.low, i.sum)))

    pub next_open : (s : ℕ) → s ≡ opened l n first (c.matrix + 1) (c.start + len) → s ≤ 2 ^ 61
    next_open s e =
        let i = inside l n list c ok in
        omega (arith, e, next_small, i.near, opened_least l n first (c.matrix + 1) (c.start + len), pow_mono {i = l + n} {j = 24} i.sum)

pub first_outside : (l n first : ℕ) (list : List ℕ) → outside l n list ≡ true → end_mark list ≡ walk_first l n first list
unfolding walk_first
first_outside l n first list e = simp e

pub first_sought : (l n first : ℕ) (list : List ℕ) (r : Column) → outside l n list ≡ false → r ≡ sought l n first list (count_of list - 0) 0 0 → r ≡ walk_first l n first list
unfolding walk_first
first_sought l n first list r e f = f ∙ simp (e, sub-zero)
