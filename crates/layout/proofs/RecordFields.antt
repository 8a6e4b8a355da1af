-- The fields of a record, read back out of its two words, are its column's; for lists of at most 256 matrices each holds what it held in the
-- record before C-14. Assumes nothing.
use Prim.Native.Nat.{ℕ, ◌+◌, ◌*◌, ◌/◌, ◌%◌, ◌^◌, ◌<◌, ◌≤◌}
use mathlib.Core.Path.{◌≡◌, sym, ap, subst, ◌∙◌}
use mathlib.Core.List.{List}
use native.Mathlib.Omega.{arith}
use lib.ListN.{get_or}
use Rattle.algebra.proofs.Lists.{get_d_listed}
use Rattle.layout.specs.declared.columns.Column.{Column}
use Rattle.layout.specs.Triples.{count_of, column_count}
use Rattle.layout.specs.Placing.{stack_column, row_of}
use Rattle.layout.specs.Refusals.{plan_number}
use Rattle.layout.specs.Columns.{column_at}
use Rattle.layout.specs.Slice.{Packable}
use Rattle.layout.specs.Packed.{packed, packed_log, record_word, records, matrix_field, column_field, stack_field, row_field, log_field}
use Rattle.layout.specs.PackedBefore.{packed_before}
use Rattle.layout.proofs.Bounds.{column-found}
use Rattle.layout.proofs.Packing.{packable, stack_fits, row_fits, first_word, second_word}

-- x and y are the words of column c: every bit of them is a field's, or zero
pub record FieldsRead (l n : ℕ) (c : Column) (x y : ℕ) : Type 0 where
  pub matrix : matrix_field x ≡ c.matrix
  pub column : column_field x ≡ c.column
  pub stack : stack_field x ≡ stack_column l n c.start
  pub row : row_field x ≡ row_of l n c.start
  pub log : log_field y ≡ c.log
  pub zeros : y % 2 ^ 59 ≡ 0
  pub first : x < 2 ^ 64
  pub second : y < 2 ^ 64

-- the fields of the record before, read out of its one word
pub record FieldsBefore (l n : ℕ) (c : Column) (z : ℕ) : Type 0 where
  pub matrix : z / 2 ^ 56 ≡ c.matrix
  pub column : z / 2 ^ 44 % 2 ^ 12 ≡ c.column
  pub stack : z / 2 ^ 32 % 2 ^ 12 ≡ stack_column l n c.start
  pub row : z / 2 ^ 8 % 2 ^ 24 ≡ row_of l n c.start
  pub log : z / 2 ^ 3 % 2 ^ 5 ≡ c.log
  pub word : c.matrix < 256 → z < 2 ^ 64

module _ (l n : ℕ) (c : Column) (p : Packable l n c) where
  pub fields_read : FieldsRead l n c (packed l n c) (packed_log c)
  unfolding packed packed_log
  fields_read =
      let s = stack_fits l n c p in
      let r = row_fits l n c p in
      record {
        matrix = omega (arith, s, r, p);
        column = omega (arith, s, r, p);
        stack = omega (arith, s, r, p);
        row = omega (arith, s, r, p);
        log = omega (arith, p);
        zeros = omega arith;
        first = omega (arith, s, r, p);
        second = omega (arith, p);
      }

  pub fields_before : FieldsBefore l n c (packed_before l n c)
  unfolding packed_before
  fields_before =
      let s = stack_fits l n c p in
      let r = row_fits l n c p in
      record {
        matrix = omega (arith, s, r, p);
        column = omega (arith, s, r, p);
        stack = omega (arith, s, r, p);
        row = omega (arith, s, r, p);
        log = omega (arith, s, r, p);
        word = λ h. omega (arith, s, r, p);
      }

-- the same fields in the record before, a u64, and in the two words
pub record Held (z x y : ℕ) : Type 0 where
  pub word : z < 2 ^ 64
  pub matrix : matrix_field x ≡ z / 2 ^ 56
  pub column : column_field x ≡ z / 2 ^ 44 % 2 ^ 12
  pub stack : stack_field x ≡ z / 2 ^ 32 % 2 ^ 12
  pub row : row_field x ≡ z / 2 ^ 8 % 2 ^ 24
  pub log : log_field y ≡ z / 2 ^ 3 % 2 ^ 5

-- column k of a list that is planned, by what stands in its records
module _ (l n : ℕ) (list : List ℕ) (ok : plan_number l n list ≡ 0) (k : ℕ) (h : k < column_count list) where
  abbrev column : Column
  column = column_at l n (count_of list) list k

  abbrev first : ℕ
  first = get_or (records l n list) (2 * k) 0

  abbrev second : ℕ
  second = get_or (records l n list) (2 * k + 1) 0

  first_is : first ≡ packed l n column
  first_is = get_d_listed (2 * column_count list) (record_word l n list) (2 * k) 0 (omega arith) ∙ first_word l n list k

  second_is : second ≡ packed_log column
  second_is = get_d_listed (2 * column_count list) (record_word l n list) (2 * k + 1) 0 (omega arith) ∙ second_word l n list k

  pub record_read : FieldsRead l n column first second
  record_read =
      subst (λ (x : ℕ). FieldsRead l n column x second) (sym first_is)
      (subst (λ (y : ℕ). FieldsRead l n column (packed l n column) y) (sym second_is) (fields_read l n column (packable l n list ok k h)))

  pub record_held : count_of list ≤ 256 → Held (packed_before l n column) first second
  record_held few =
      let f = column-found l n (count_of list) list k h in
      let now = record_read in
      let old = fields_before l n column (packable l n list ok k h) in
      record {
        word = old.word (omega (arith, ap (λ (c : Column). c.matrix) f.is, f.there));
        matrix = now.matrix ∙ sym old.matrix;
        column = now.column ∙ sym old.column;
        stack = now.stack ∙ sym old.stack;
        row = now.row ∙ sym old.row;
        log = now.log ∙ sym old.log;
      }
