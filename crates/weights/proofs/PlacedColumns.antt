-- Lists that no lower number refuses: every column fits, at a row that is a multiple of its length; and there are few columns.
use mathlib.Core.Path.{◌≡◌, sym, ◌∙◌, subst}
use mathlib.Core.List.{List}
use Prim.Native.Nat.{ℕ, ◌+◌, ◌<◌, ◌≤◌, min}
use native.Mathlib.Nat.{div-lt_iff_lt-mul}
use native.Mathlib.Omega.{arith}
use lib.Dec.{eqb}
use lib.Pow.{pow_pos}
use borrow.Author.Tests.{eqb-false}
use Rattle.layout.specs.declared.columns.Column.{Column}
use Rattle.layout.specs.Checks.{refuse}
use Rattle.layout.specs.Triples.{count_of, width_at, log_at, columns_before, column_count}
use Rattle.layout.specs.Placing.{height, matrix_start, column_start, stack_width}
use Rattle.layout.specs.Columns.{column_at}
use Rattle.layout.specs.Lists.{first_count, empty_number}
use Rattle.layout.proofs.Firsts.{or_passed, is_false, positive}
use Rattle.layout.proofs.Turns.{before_mono}
use Rattle.layout.proofs.Fitting.{slice_of_row}
use Rattle.layout.proofs.Bounds.{column-found, start_below}
use Rattle.layout.proofs.Placements.{start_is_multiple}
use Rattle.layout.proofs.RunLaws.{Listed}
use Rattle.layout.specs.Walked.{Walked}
use Rattle.layout.proofs.ColumnWalks.{columns_few}
use Rattle.weights.specs.Fits.{Fits}

pub some-column : (first later : ℕ) (list : List ℕ) → empty_number first later list ≡ 0 → 0 < column_count list
unfolding empty_number
some-column first later list e =
    let some = eqb-false (columns_before list (min first (count_of list))) 0 (is_false 7 _ (omega arith) (or_passed (refuse 7 (eqb (columns_before list (min first (count_of list))) 0)) _ e).0) in
    omega (arith, positive (columns_before list (min first (count_of list))) some, before_mono list (min first (count_of list)) (count_of list) (omega arith))

module _ {l n : ℕ} {counts lists : List ℕ} (listed : Listed l n counts lists) where
  fits_at : (i j : ℕ) → i < count_of lists → j < width_at lists i → Fits l n (log_at lists i) (column_start l n (first_count counts) lists i j)
  fits_at i j h k =
      let high = listed.laid.logs i h (omega arith) in
      record {
        log = high;
        aligned = slice_of_row l n (log_at lists i) high (column_start l n (first_count counts) lists i j) ∙ start_is_multiple l n (first_count counts) lists listed.placed i j h k;
      }

  pub column_fits : (k : ℕ) → k < column_count lists → Fits l n (column_at l n (first_count counts) lists k).log (column_at l n (first_count counts) lists k).start
  column_fits k h =
      let f = column-found l n (first_count counts) lists k h in
      subst (λ (c : Column). Fits l n c.log c.start) (sym f.is) (fits_at f.matrix f.column f.there f.within)

  module _ (first columns : ℕ) (is_first : first ≡ first_count counts) (all : columns ≡ column_count lists) where
    pub lists_walked : Walked l n first lists columns
    lists_walked = record { laid = listed.laid; all = all }

    pub columns-small : columns ≤ 16838656
    columns-small = columns_few lists_walked

  -- each column opens at most one stack column
  pub stacked-small : stack_width l n (first_count counts) lists ≤ 16838656
  stacked-small =
      omega (
        arith,
        columns-small (first_count counts) (column_count lists) refl' refl',
        (div-lt_iff_lt-mul {k = height l n} {x = matrix_start l n (first_count counts) lists (count_of lists)} {y = column_count lists + 1} (pow_pos (l + n))).1
            (omega (arith, start_below l n (first_count counts) lists listed.laid (count_of lists) (omega arith), pow_pos (l + n))),
      )
    where
      refl' : {x : ℕ} → x ≡ x
      refl' = omega arith
