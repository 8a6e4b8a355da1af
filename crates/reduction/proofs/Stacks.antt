-- Commitments one after the other: what the stacking of each promises, over all their matrices. A commitment is added at the end; it opens a stack column.
use mathlib.Core.Path.{◌≡◌, refl, sym, ◌∙◌, ap, ap₂, subst}
use mathlib.Core.Logic.{◌⊎◌, inl, inr}
use mathlib.Core.Bool.{true, cond, ◌&&◌}
use mathlib.Core.List.{List, [], ◌∷◌, ◌++◌}
use Prim.Native.Nat.{ℕ, suc, ◌+◌, ◌-◌, ◌*◌, ◌/◌, ◌%◌, ◌<◌, ◌≤◌}
use native.Mathlib.Nat
use native.Mathlib.Nat.{eq-or-lt_of_le, le_of_suc-le-suc}
use native.Mathlib.Omega.{arith}
use lib.ListN.{length, get_or, length-append, get_or-append}
use lib.Seq.{get_or-append-add}
use lib.Dec.{ltb}
use lib.Pow.{pow_pos}
use borrow.Author.Tests.{le-ltb}
use Rattle.field.specs.Slice.{canonical_words}
use Rattle.layout.specs.Checks.{refuse, or_else}
use Rattle.layout.specs.Triples.{count_of, width_at, log_at, flag_at, columns_before}
use Rattle.layout.specs.Placing.{height, slice_length, matrix_start, row_of, stack_width}
use Rattle.layout.specs.Refusals.{columns_in, column_number, matrix_number, place_number, higher_number, rise_number}
use Rattle.layout.specs.Stacked.{cells_of, cells_before, stride_of}
use Rattle.layout.proofs.Firsts.{first_all, first_none}
use Rattle.layout.proofs.Parts.{matrix_ends, starts_mono, start_multiple, width-cells}
use Rattle.layout.proofs.Fills.{stride-cells, cells_mono}
use Rattle.layout.proofs.Commitments.{later_width}
use Rattle.reduction.proofs.ReturnedWords.{canonical_append}
use Rattle.reduction.proofs.Fronts.{front_width, front_log, front_flag, front_columns, front_cells_of, front_cells, front_start, back_width, back_log, back_flag, back_cells_of}

-- m matrices in `lists`, of which `first` are the first commitment's: nothing of them is refused, and their cells stand in the stacked matrices
pub record Stacks (l n first m : ℕ) (lists stacked cells : List ℕ) : Type 0 where
  pub size : length lists ≡ 3 * m
  pub begun : first ≤ m
  pub flags : (i : ℕ) → i < m → flag_at lists i ≤ 1
  pub widths : (i : ℕ) → i < m → columns_in first lists i ≤ 4096
  pub placed : (i : ℕ) → i < m → place_number l n first lists i ≡ 0
  pub rises : (b : ℕ) → b < first → rise_number lists b ≡ 0
  pub some : 0 < columns_before lists first
  pub full : (i : ℕ) → first ≤ i → i < m → 0 < width_at lists i
  pub ends : matrix_start l n first lists m ≡ length stacked
  pub cells_size : length cells ≡ cells_before lists m
  pub below : canonical_words stacked ≡ true
  pub cell : (i x : ℕ) → i < m → x < cells_of lists i
      → get_or stacked (matrix_start l n first lists i + x * stride_of l (log_at lists i)) 0 ≡ get_or cells (cells_before lists i + x) 0

-- a list of three words
three : (xs : List ℕ) → length xs ≡ 3 → xs ≡ get_or xs 0 0 ∷ get_or xs 1 0 ∷ get_or xs 2 0 ∷ []
three [] e = absurd (omega arith)
three (x ∷ []) e = absurd (omega arith)
three (x ∷ y ∷ []) e = absurd (omega arith)
three (x ∷ y ∷ z ∷ []) e = refl
three (x ∷ y ∷ z ∷ w ∷ xs) e = absurd (omega arith)

-- a column fits as well in a later stack column
row_after : (l n q x : ℕ) → row_of l n (q * height l n + x) ≡ row_of l n x
row_after l n q x = ap (λ k. k % height l n) (Nat.add_comm (q * height l n) x) ∙ Nat.add-mul-mod_self_right x q (height l n)

matrix_after : (l n w h q : ℕ) → matrix_number l n w h 0 ≡ 0 → matrix_number l n w h (q * height l n) ≡ 0
unfolding matrix_number column_number
matrix_after l n w h q e =
    first_none w _ (λ j k.
    ap (λ r. column_at_row r) (row_after l n q (j * slice_length l h) ∙ ap (row_of l n) (sym (Nat.zero-add (j * slice_length l h)))) ∙ first_all w (λ j. column_number l n h (0 + j * slice_length l h)) e j k)
  where
    column_at_row : ℕ → ℕ
    column_at_row r = or_else (refuse 4 (ltb (l + n) h)) (refuse 5 (ltb (height l n) (r + slice_length l h)))

module _ (l n first m : ℕ) (lists stacked cells more mine given : List ℕ) (s : Stacks l n first m lists stacked cells) (a : Stacks l n 1 1 more mine given) where
  abbrev P : List ℕ
  P = lists ++ more

  abbrev H : ℕ
  H = height l n

  -- one of the matrices that were there, or the one that is added
  either : {C : ℕ → Type 0} → ((i : ℕ) → i < m → C i) → C m → (i : ℕ) → i < suc m → C i
  either {C} front back i h = by (eq-or-lt_of_le (le_of_suc-le-suc h))
    where
      by : (i ≡ m) ⊎ (i < m) → C i
      by (inl e) = subst C (sym e) back
      by (inr k) = front i k

  start_at : matrix_start l n first P m ≡ length stacked
  start_at = front_start lists more m s.size l n first m (omega arith) ∙ s.ends

  width_alone : columns_before more 1 ≡ width_at more 0
  unfolding columns_before
  width_alone = omega arith

  cells_alone : cells_before more 1 ≡ cells_of more 0
  unfolding cells_before
  cells_alone = omega arith

  whole : length stacked ≡ length stacked / H * H
  whole = omega (arith, Nat.div-add-mod' (length stacked) H, ap (λ k. k % H) (sym start_at) ∙ start_multiple l n first P m s.begun)

  alone_is : width_at P m ∷ log_at P m ∷ flag_at P m ∷ [] ≡ more
  alone_is =
      (λ i. back_width lists more m s.size i ∷ back_log lists more m s.size i ∷ back_flag lists more m s.size i ∷ []) ∙ sym (three more (omega (arith, a.size)))

  count_one : count_of more ≡ 1
  count_one = omega (arith, a.size)

  next_ends : matrix_start l n first P (suc m) ≡ length (stacked ++ mine)
  next_ends =
      later_width l n first P m s.begun
      ∙ ap₂ ◌+◌ start_at
      (ap (λ ws. stack_width l n 1 ws * H) alone_is ∙ ap (λ k. stack_width l n k more * H) (sym count_one)
      ∙ sym (width-cells l n more _ refl) ∙ ap (λ k. matrix_start l n k more k) count_one ∙ a.ends)
      ∙ sym (length-append stacked mine)

  next_placed : place_number l n first P m ≡ 0
  unfolding place_number matrix_start
  next_placed =
      (λ i. matrix_number l n (back_width lists more m s.size i) (back_log lists more m s.size i) ((start_at ∙ whole) i))
      ∙ matrix_after l n (width_at more 0) (log_at more 0) (length stacked / H) (a.placed 0 (omega arith))

  next_widths : columns_in first P m ≤ 4096
  unfolding columns_in
  next_widths =
      let e : columns_in first P m ≡ width_at P m = ap (λ b. cond b (columns_before P (suc m)) (width_at P m)) (le-ltb m first s.begun) in
      let k : columns_in 1 more 0 ≤ 4096 = a.widths 0 (omega arith) in
      omega (arith, e, back_width lists more m s.size, width_alone, k)

  old_widths : (i : ℕ) → i < m → columns_in first P i ≤ 4096
  unfolding columns_in
  old_widths i h =
      let e : columns_in first P i ≡ columns_in first lists i
      = ap₂ (λ x y. cond (ltb i first) x y) (front_columns lists more m s.size (suc i) h) (front_width lists more m s.size i h) in
      omega (arith, e, s.widths i h)

  old_placed : (i : ℕ) → i < m → place_number l n first P i ≡ 0
  unfolding place_number
  old_placed i h =
      (λ k. matrix_number l n (front_width lists more m s.size i h k) (front_log lists more m s.size i h k) (front_start lists more m s.size l n first i (omega arith) k))
      ∙ s.placed i h

  old_rises : (b : ℕ) → b < first → rise_number P b ≡ 0
  unfolding rise_number higher_number
  old_rises b h =
      first_none b (higher_number P b) (λ x k.
      (λ i. refuse 6
      (ltb 0 (front_width lists more m s.size x (omega (arith, s.begun)) i)
      && (ltb 0 (front_width lists more m s.size b (omega (arith, s.begun)) i)
      && ltb (front_log lists more m s.size x (omega (arith, s.begun)) i) (front_log lists more m s.size b (omega (arith, s.begun)) i))))
      ∙ first_all b (higher_number lists b) (s.rises b h) x k)

  -- the cells that were there, and those that are added
  old_cell : (i : ℕ) → i < m → (x : ℕ) → x < cells_of P i
      → get_or (stacked ++ mine) (matrix_start l n first P i + x * stride_of l (log_at P i)) 0 ≡ get_or (cells ++ given) (cells_before P i + x) 0
  unfolding cells_before
  old_cell i h x k =
      let small : x < cells_of lists i = omega (arith, front_cells_of lists more m s.size i h) in
      ap₂ (λ y d. get_or (stacked ++ mine) (y + x * stride_of l d) 0) (front_start lists more m s.size l n first i (omega arith)) (front_log lists more m s.size i h)
      ∙ get_or-append stacked mine 0 _ (inside small)
      ∙ s.cell i x h small
      ∙ sym (ap (λ y. get_or (cells ++ given) (y + x) 0) (front_cells lists more m s.size i (omega arith))
      ∙ get_or-append cells given 0 _ (omega (arith, s.cells_size, cells_mono lists (suc i) m h, small)))
    where
      inside : x < cells_of lists i → matrix_start l n first lists i + x * stride_of l (log_at lists i) < length stacked
      inside small =
          omega (
            arith,
            s.ends,
            matrix_ends l n first lists i,
            starts_mono l n first lists (suc i) m h,
            stride-cells l lists i,
            Nat.mul-le-mul_right {m = suc x} {n = cells_of lists i} (stride_of l (log_at lists i)) small,
            Nat.suc-mul x (stride_of l (log_at lists i)),
            pow_pos (l - log_at lists i),
          )

  next_cell : (x : ℕ) → x < cells_of P m
      → get_or (stacked ++ mine) (matrix_start l n first P m + x * stride_of l (log_at P m)) 0 ≡ get_or (cells ++ given) (cells_before P m + x) 0
  unfolding matrix_start cells_before
  next_cell x k =
      ap₂ (λ y d. get_or (stacked ++ mine) (y + x * stride_of l d) 0) start_at (back_log lists more m s.size)
      ∙ get_or-append-add stacked mine (x * stride_of l (log_at more 0)) 0
      ∙ ap (λ y. get_or mine y 0) (sym (Nat.zero-add (x * stride_of l (log_at more 0))))
      ∙ a.cell 0 x (omega arith) (omega (arith, back_cells_of lists more m s.size))
      ∙ ap (λ y. get_or given y 0) (Nat.zero-add x)
      ∙ sym (ap (λ y. get_or (cells ++ given) (y + x) 0) (front_cells lists more m s.size m (omega arith) ∙ sym s.cells_size) ∙ get_or-append-add cells given x 0)

  pub one_more : Stacks l n first (suc m) P (stacked ++ mine) (cells ++ given)
  unfolding cells_before
  one_more =
      record {
        size = length-append lists more ∙ omega (arith, s.size, a.size);
        begun = omega (arith, s.begun);
        flags =
            either {C = λ i. flag_at P i ≤ 1} (λ i h. omega (arith, front_flag lists more m s.size i h, s.flags i h))
            (omega (arith, back_flag lists more m s.size, a.flags 0 (omega arith)));
        widths = either {C = λ i. columns_in first P i ≤ 4096} old_widths next_widths;
        placed = either {C = λ i. place_number l n first P i ≡ 0} old_placed next_placed;
        rises = old_rises;
        some = omega (arith, front_columns lists more m s.size first s.begun, s.some);
        full = λ i f h.
            either {C = λ i. first ≤ i → 0 < width_at P i} (λ i h f. omega (arith, front_width lists more m s.size i h, s.full i f h))
            (λ f. omega (arith, back_width lists more m s.size, width_alone, a.some)) i h f;
        ends = next_ends;
        cells_size =
            length-append cells given
            ∙ omega (arith, s.cells_size, a.cells_size, cells_alone, front_cells lists more m s.size m (omega arith), back_cells_of lists more m s.size);
        below = canonical_append stacked mine s.below a.below;
        cell = λ i x h. either {C = λ i. (x : ℕ) → x < cells_of P i
            → get_or (stacked ++ mine) (matrix_start l n first P i + x * stride_of l (log_at P i)) 0 ≡ get_or (cells ++ given) (cells_before P i + x) 0} old_cell next_cell i h x;
      }
