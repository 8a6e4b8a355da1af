-- The records of a plan: each fits its bits. Assumes nothing.
use Prim.Native.Nat.{ℕ, ◌+◌, ◌-◌, ◌*◌, ◌/◌, ◌%◌, ◌^◌, ◌<◌, ◌≤◌}
use mathlib.Core.Path.{◌≡◌, refl, sym, ap, subst, ◌∙◌}
use mathlib.Core.List.{List}
use native.Mathlib.Nat.{mul-le-mul_right, div-lt_iff_lt-mul, mod-lt, mod-eq-sub-div-mul}
use native.Mathlib.Omega.{arith}
use lib.Pow.{pow_pos, pow_mono}
use lib.ListN.{length, set}
use borrow.Author.Tests.{eq-eqb, ne_eqb}
use Rattle.algebra.specs.Listed.{listed}
use Rattle.layout.specs.declared.columns.Column.{Column}
use Rattle.layout.specs.declared.stacked_pcs.StackedSlice.{StackedSlice}
use Rattle.layout.specs.Triples.{count_of, width_at, log_at, columns_before, column_count}
use Rattle.layout.specs.Placing.{height, matrix_start, stack_column, row_of}
use Rattle.layout.specs.Refusals.{plan_number}
use Rattle.layout.specs.Columns.{column_of, column_at, walk_first, walk_next}
use Rattle.layout.specs.Slice.{Packable, slice_at}
use Rattle.layout.specs.Packed.{packed, packed_log, record_word, records}
use Rattle.layout.specs.Shaped.{Laid}
use Rattle.layout.proofs.Passed.{plan-passed, plan_laid, planned-columns}
use Rattle.layout.proofs.Slices.{slice-pos}
use Rattle.layout.proofs.Bounds.{column-found, column-below, start_below}
use Rattle.layout.proofs.InOrder.{walk_first_lem, walk_next_lem}
use Rattle.layout.proofs.Filling.{Filled, fill_start, fill_length, fill_turn, fill_end}

module _ (l n : ℕ) (list : List ℕ) (ok : plan_number l n list ≡ 0) where
  few : column_count list ≤ 4096
  few = planned-columns l n list (plan-passed l n list ok).0

  pub of_packable : (i j : ℕ) → i < count_of list → j < width_at list i → columns_before list i + j < column_count list → Packable l n (column_of l n (count_of list) list i j)
  of_packable i j h k room =
      let laid = plan_laid l n list ok in
      let s = laid.shaped in
      record {
        sum = s.sum;
        matrix = omega (arith, (plan-passed l n list ok).0.few);
        column = omega (arith, s.widths i h);
        stack =
            omega (
              arith,
              column-below l n (count_of list) list laid i j h k,
              slice-pos l (log_at list i),
              mul-le-mul_right {m = columns_before list i + j + 1} {n = 4096} (height l n) (omega (arith, few)),
            );
        log = omega (arith, laid.logs i h (omega arith), s.sum);
      }

  pub packable : (k : ℕ) → k < column_count list → Packable l n (column_at l n (count_of list) list k)
  packable k h =
      let f = column-found l n (count_of list) list k h in
      subst (Packable l n) (sym f.is) (of_packable f.matrix f.column f.there f.within (omega (arith, f.index)))

-- the stack width fits
pub width_few : (l n : ℕ) (list : List ℕ) → Laid l n list → column_count list ≤ 4096 → matrix_start l n (count_of list) list (count_of list) / height l n ≤ 4096
width_few l n list laid few =
    omega (
      arith,
      few,
      (div-lt_iff_lt-mul {k = height l n} {x = matrix_start l n (count_of list) list (count_of list)} {y = 4097} (pow_pos (l + n))).1
          (omega (arith, start_below l n (count_of list) list laid (count_of list) (omega arith), pow_pos (l + n), mul-le-mul_right {m = column_count list} {n = 4096} (height l n) few)),
    )

-- a cell's stack column and row, as the code computes them
module _ (l n s : ℕ) (sum : l + n ≤ 24) (room : s < 65536 * height l n) where
  pub stack_small : stack_column l n s < 65536
  stack_small = (div-lt_iff_lt-mul {k = height l n} {x = s} {y = 65536} (pow_pos (l + n))).1 room

  pub row_small : row_of l n s < 2 ^ 24
  row_small = omega (arith, mod-lt s {m = height l n} (pow_pos (l + n)), pow_mono {i = l + n} {j = 24} sum)

  pub row_is : s - s / height l n * height l n ≡ row_of l n s
  row_is = sym (mod-eq-sub-div-mul s (height l n))

-- the fields of a slice
pub record Fields (l n s : ℕ) (r : StackedSlice) : Type 0 where
  pub col : r.col_idx ≡ stack_column l n s
  pub row : r.row_idx ≡ row_of l n s

pub fields : (l n s h : ℕ) (r : StackedSlice) → r ≡ slice_at l n s h → Fields l n s r
unfolding slice_at
fields l n s h r e =
    record {
      col = ap (λ (x : StackedSlice). x.col_idx) e;
      row = ap (λ (x : StackedSlice). x.row_idx) e;
    }

-- a column's stack column and starting row fit their bits
module _ (l n : ℕ) (c : Column) (ok : Packable l n c) where
  pub stack_fits : stack_column l n c.start < 4096
  stack_fits = (div-lt_iff_lt-mul {k = height l n} {x = c.start} {y = 4096} (pow_pos (l + n))).1 ok.stack

  pub row_fits : row_of l n c.start < 2 ^ 24
  row_fits = row_small l n c.start ok.sum (omega (arith, ok.stack))

-- what `pack` adds up
module _ (l n : ℕ) (c : Column) (r : StackedSlice) (ok : Packable l n c) (is : r ≡ slice_at l n c.start c.log) where
  f : Fields l n c.start r
  f = fields l n c.start c.log r is

  pub pack_col : r.col_idx < 4096
  pack_col = omega (arith, f.col, stack_fits l n c ok)

  pub pack_row : r.row_idx < 2 ^ 24
  pack_row = omega (arith, f.row, row_fits l n c ok)

  pub pack_is : c.matrix * 2 ^ 48 + c.column * 2 ^ 36 + r.col_idx * 2 ^ 24 + r.row_idx ≡ packed l n c
  unfolding packed
  pack_is = omega (arith, f.col, f.row)

-- the two words of column k
module _ (l n : ℕ) (list : List ℕ) (k : ℕ) where
  pub first_word : record_word l n list (2 * k) ≡ packed l n (column_at l n (count_of list) list k)
  unfolding record_word
  first_word =
      let z : 2 * k / 2 ≡ k = omega arith in
      simp (eq-eqb (2 * k % 2) 0 (omega arith), z)

  pub second_word : record_word l n list (2 * k + 1) ≡ packed_log (column_at l n (count_of list) list k)
  unfolding record_word
  second_word =
      let z : (2 * k + 1) / 2 ≡ k = omega arith in
      simp (ne_eqb ((2 * k + 1) % 2) 0 (λ e. omega arith), z)

-- `write` after k records: the cursor is at column k
pub record Writing (l n : ℕ) (list out : List ℕ) (k : ℕ) (c : Column) (ys : List ℕ) : Type 0 where
  pub bound : 2 * k ≤ length out
  pub cursor : c ≡ column_at l n (count_of list) list k
  pub filled : Filled (record_word l n list) out (2 * k) ys

module _ (l n : ℕ) (list out : List ℕ) (ok : plan_number l n list ≡ 0) (size : length out ≡ 2 * column_count list) where
  pub write_start : (c : Column) → c ≡ walk_first l n (count_of list) list → Writing l n list out 0 c out
  write_start c e =
      record { bound = omega arith; cursor = e ∙ walk_first_lem l n (count_of list) list (plan_laid l n list ok); filled = fill_start (record_word l n list) out }

  module _ (k : ℕ) (c : Column) (ys : List ℕ) (w : Writing l n list out k c ys) where
    pub write_packable : k < length out / 2 → Packable l n c
    write_packable h = subst (Packable l n) (sym w.cursor) (packable l n list ok k (omega arith))

    pub write_length : length ys ≡ length out
    write_length = fill_length (record_word l n list) out (2 * k) ys w.bound w.filled

    -- the first word of the record is written
    pub write_half : (v : ℕ) → k < length out / 2 → v ≡ packed l n c → Filled (record_word l n list) out (2 * k + 1) (set ys (2 * k) v)
    write_half v h e = fill_turn (record_word l n list) out (2 * k) v ys (omega arith) (e ∙ (ap (packed l n) w.cursor ∙ sym (first_word l n list k))) w.filled

    pub write_half_length : (v : ℕ) → k < length out / 2 → v ≡ packed l n c → length (set ys (2 * k) v) ≡ length out
    write_half_length v h e = fill_length (record_word l n list) out (2 * k + 1) (set ys (2 * k) v) (omega arith) (write_half v h e)

    pub write_turn : (v y : ℕ) (next : Column) → k < length out / 2 → v ≡ packed l n c → y ≡ packed_log c → next ≡ walk_next l n (count_of list) list c
        → Writing l n list out (k + 1) next (set (set ys (2 * k) v) (2 * k + 1) y)
    write_turn v y next h e d f =
        let both = fill_turn (record_word l n list) out (2 * k + 1) y (set ys (2 * k) v) (omega arith) (d ∙ (ap packed_log w.cursor ∙ sym (second_word l n list k))) (write_half v h e) in
        let z : 2 * k + 1 + 1 ≡ 2 * (k + 1) = omega arith in
        record {
          bound = omega arith;
          cursor = f ∙ (ap (walk_next l n (count_of list) list) w.cursor ∙ walk_next_lem l n (count_of list) list (plan_laid l n list ok) k (omega arith));
          filled = subst (λ (i : ℕ). Filled (record_word l n list) out i (set (set ys (2 * k) v) (2 * k + 1) y)) z both;
        }

    pub write_end : length out / 2 ≤ k → ys ≡ records l n list
    write_end h =
        fill_end (record_word l n list) out (2 * k) (length out) ys refl w.bound (omega (arith, size)) w.filled ∙ ap (λ (x : ℕ). listed x (record_word l n list)) size
