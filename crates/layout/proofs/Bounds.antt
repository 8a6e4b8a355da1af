-- Where columns lie at most: each column takes at most one stack column, so column k ends within the first k + 1.
-- For every list that 1, 2 and 4 let pass. Assumes nothing.
use Prim.Native.Nat.{ℕ, zero, suc, ◌+◌, ◌-◌, ◌*◌, ◌<◌, ◌≤◌}
use mathlib.Core.Path.{◌≡◌, refl, ap}
use mathlib.Core.List.{List}
use mathlib.Core.Bool.{cond}
use native.Mathlib.Nat.{add-mul, mul-le-mul, mul-le-mul_right, div-lt_iff_lt-mul}
use native.Mathlib.Decide.{dec_le, dec_lt, ℕ_discrete}
use native.Mathlib.Omega.{arith}
use lib.Dec.{ltb}
use lib.Pow.{pow_pos}
use borrow.Author.Tests.{lt-ltb, le-ltb}
use Rattle.layout.specs.declared.columns.Column.{Column}
use Rattle.layout.specs.Triples.{count_of, width_at, log_at, columns_before, column_count}
use Rattle.layout.specs.Placing.{height, slice_length, round_up, opened, matrix_length, matrix_start, column_start}
use Rattle.layout.specs.Columns.{column_of, located, column_at}
use Rattle.layout.specs.Shaped.{Laid}
use Rattle.layout.proofs.Slices.{slice-small, opened_later, opened-within, empty_adds}

pub round_below : (h s q : ℕ) → 0 < h → s ≤ q * h → round_up h s ≤ q * h
unfolding round_up
round_below h s q p e =
    mul-le-mul_right h (omega (arith, (div-lt_iff_lt-mul {k = h} {x = s + (h - 1)} {y = q + 1} p).1 (omega (arith, add-mul q 1 h))))

pub opened-below : (l n first i s q : ℕ) → s ≤ q * height l n → opened l n first i s ≤ q * height l n
opened-below l n first i s q e = by_case (dec_le first i)
  where
    by_case : Dec (first ≤ i) → opened l n first i s ≤ q * height l n
    by_case (yes h) = omega (arith, opened_later l n first i s h, round_below (height l n) s q (pow_pos (l + n)) e)
    by_case (no h) = omega (arith, opened-within l n first i s (omega arith))

-- column k of a list is column j of matrix i
pub record Found (l n first : ℕ) (list : List ℕ) (k : ℕ) (c : Column) : Type 0 where
  pub matrix : ℕ
  pub column : ℕ
  pub there : matrix < count_of list
  pub within : column < width_at list matrix
  pub index : columns_before list matrix + column ≡ k
  pub is : c ≡ column_of l n first list matrix column

located-found : (l n first : ℕ) (list : List ℕ) (r i k : ℕ) → r + i ≡ count_of list → columns_before list i + k < column_count list
    → Found l n first list (columns_before list i + k) (located l n first list r i k)
unfolding located columns_before
located-found l n first list zero i k h room =
    let e : i ≡ count_of list = omega arith in
    absurd (omega (arith, ap (columns_before list) e))
located-found l n first list (suc r) i k h room = by_case (dec_lt k (width_at list i)) (located-found l n first list r (suc i) (k - width_at list i))
  where
    by_case : Dec (k < width_at list i)
        → (r + suc i ≡ count_of list → columns_before list (suc i) + (k - width_at list i) < column_count list
        → Found l n first list (columns_before list (suc i) + (k - width_at list i)) (located l n first list r (suc i) (k - width_at list i)))
        → Found l n first list (columns_before list i + k) (cond (ltb k (width_at list i)) (column_of l n first list i k) (located l n first list r (suc i) (k - width_at list i)))
    by_case (yes p) rest =
        record { matrix = i; column = k; there = omega arith; within = p; index = refl; is = simp (lt-ltb k (width_at list i) p) }
    by_case (no p) rest =
        let f = rest (omega arith) (omega arith) in
        record {
          matrix = f.matrix;
          column = f.column;
          there = f.there;
          within = f.within;
          index = omega (arith, f.index);
          is = simp (le-ltb k (width_at list i) (omega arith)) f.is;
        }

pub column-found : (l n first : ℕ) (list : List ℕ) (k : ℕ) → k < column_count list → Found l n first list k (column_at l n first list k)
unfolding columns_before
column-found l n first list k h =
    let f = located-found l n first list (count_of list) 0 k (omega arith) (omega arith) in
    record { matrix = f.matrix; column = f.column; there = f.there; within = f.within; index = omega (arith, f.index); is = f.is }

module _ (l n first : ℕ) (list : List ℕ) (ok : Laid l n list) where
  slice-below : (i : ℕ) → i < count_of list → 0 < width_at list i → slice_length l (log_at list i) ≤ height l n
  slice-below i h k = slice-small l (log_at list i) (l + n) (omega arith) (ok.logs i h k)

  -- the end of column j, from the start of its matrix
  ends-below : (i j : ℕ) → i < count_of list → j < width_at list i → matrix_start l n first list i ≤ columns_before list i * height l n
      → column_start l n first list i j + slice_length l (log_at list i) ≤ (columns_before list i + j + 1) * height l n
  ends-below i j h k e =
      let L = slice_length l (log_at list i) in
      let b = slice-below i h (omega arith) in
      omega (arith, e, add-mul (columns_before list i + j) 1 (height l n), add-mul (columns_before list i) j (height l n), b, mul-le-mul {n₁ = j} {m₁ = L} {n₂ = j} {m₂ = height l n} (omega arith) b)

  pub start_below : (i : ℕ) → i ≤ count_of list → matrix_start l n first list i ≤ columns_before list i * height l n
  unfolding matrix_start matrix_length columns_before
  start_below zero h = omega arith
  start_below (suc i) h = opened-below l n first (suc i) _ (columns_before list i + width_at list i) (by_case (ℕ_discrete (width_at list i) 0) (start_below i (omega arith)))
    where
      by_case : Dec (width_at list i ≡ 0) → matrix_start l n first list i ≤ columns_before list i * height l n
          → matrix_start l n first list i + width_at list i * slice_length l (log_at list i) ≤ (columns_before list i + width_at list i) * height l n
      by_case (yes e) b =
          omega (arith, b, empty_adds (matrix_start l n first list i) (width_at list i) (slice_length l (log_at list i)) e, add-mul (columns_before list i) (width_at list i) (height l n))
      by_case (no e) b =
          let c = slice-below i h (omega arith) in
          omega (arith, b, add-mul (columns_before list i) (width_at list i) (height l n), mul-le-mul {n₁ = width_at list i} {m₁ = slice_length l (log_at list i)} {n₂ = width_at list i} {m₂ = height l n} (omega arith) c)

  pub column-below : (i j : ℕ) → i < count_of list → j < width_at list i → column_start l n first list i j + slice_length l (log_at list i) ≤ (columns_before list i + j + 1) * height l n
  column-below i j h k = ends-below i j h k (start_below i (omega arith))
