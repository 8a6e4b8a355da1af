-- The laws of a plan that is not refused: slices start at multiples of their length, lie inside their stack column and do not
-- overlap, a matrix's slices are one unbroken run, and the stack width is the number of opened stack columns.
-- Assumes nothing.
use Prim.Native.Nat.{ℕ, zero, suc, ◌+◌, ◌-◌, ◌*◌, ◌/◌, ◌%◌, ◌^◌, ◌<◌, ◌≤◌, min, max}
use mathlib.Core.Path.{◌≡◌, refl, sym, ap, ◌∙◌}
use mathlib.Core.List.{List}
use native.Mathlib.Nat.{add-mul, mul_assoc, mul_comm, mul-mod_left, mul-le-mul_right, div-add-mod', div-lt_iff_lt-mul, lt_of_mul-lt-mul_right, lt-div-mul-add, div-mul-le_self, zero-div}
use native.Mathlib.Decide.{dec_le, dec_lt, ℕ_discrete}
use native.Mathlib.Omega.{arith}
use lib.Pow.{pow_pos}
use borrow.Author.Tests.{lt-ltb, ltb-false}
use Rattle.layout.specs.Triples.{count_of, width_at, log_at, columns_before}
use Rattle.layout.specs.Placing.{height, slice_length, opened, matrix_length, matrix_start, column_start, stack_column, row_of, stack_width}
use Rattle.layout.specs.Refusals.{higher_number, rise_number, rises_number, place_number, walk_number, laid_number, plan_number}
use Rattle.layout.proofs.Firsts.{or_passed, is_false, first_all}
use Rattle.layout.proofs.Slices.{slice-pos, slice_power, slice_divides, power_divides, opened-within, opened_later, round_least}
use Rattle.layout.proofs.Fitting.{matrix_fits}
use Rattle.layout.proofs.Passed.{plan-passed, walk_low}
use Rattle.layout.proofs.Parts.{matrix_ends, starts_mono, start_multiple, width-cells}
use Rattle.layout.proofs.Turns.{before_mono}

-- x is a multiple of L
abbrev Multiple : ℕ → ℕ → Type 0
Multiple L x = (q : ℕ) × (x ≡ q * L)

multiple_mod : (L x : ℕ) → Multiple L x → x % L ≡ 0
multiple_mod L x m = ap (λ (k : ℕ). k % L) m.1 ∙ mul-mod_left m.0 L

-- a longer slice is a multiple of a shorter one
longer : (l h k : ℕ) → h ≤ k → Multiple (slice_length l h) (slice_length l k)
longer l h k e = (
  2 ^ (max k l - max h l),
  slice_power l k ∙ (power_divides (max h l) (max k l) (omega arith) ∙ (mul_comm (2 ^ max h l) (2 ^ (max k l - max h l)) ∙ ap (λ (x : ℕ). 2 ^ (max k l - max h l) * x) (sym (slice_power l h)))),
)

-- 6 passed: in the first commitment columns do not rise
pub falls : (first : ℕ) (list : List ℕ) → rises_number first list ≡ 0 → (b : ℕ) → b < min first (count_of list) → (a : ℕ) → a < b → 0 < width_at list a → 0 < width_at list b → log_at list b ≤ log_at list a
unfolding rise_number higher_number
falls first list e b h a k p q =
    ltb-false _ _ (sym (simp (lt-ltb 0 (width_at list a) p, lt-ltb 0 (width_at list b) q)) ∙ is_false 6 _ (omega arith) (first_all b (higher_number list b) (first_all (min first (count_of list)) (rise_number list) e b h) a k))

module _ (l n first : ℕ) (list : List ℕ) (ok : laid_number l n first list ≡ 0) where
  walks : walk_number l n first list ≡ 0
  unfolding laid_number
  walks = (or_passed (walk_number l n first list) (rises_number first list) ok).0

  rises : rises_number first list ≡ 0
  unfolding laid_number
  rises = (or_passed (walk_number l n first list) (rises_number first list) ok).1

  -- slices lie inside H
  pub inside-height : (i j : ℕ) → i < count_of list → j < width_at list i → row_of l n (column_start l n first list i j) + slice_length l (log_at list i) ≤ height l n
  unfolding place_number
  inside-height i j h k = matrix_fits l n (width_at list i) (log_at list i) (matrix_start l n first list i) (first_all (count_of list) (place_number l n first list) walks i h) j k

  -- in the first commitment a start is a multiple of every length that no matrix before it falls below
  start_aligned : (h i : ℕ) → i < first → ((a : ℕ) → a < i → 0 < width_at list a → h ≤ log_at list a) → Multiple (slice_length l h) (matrix_start l n first list i)
  unfolding matrix_start matrix_length
  start_aligned h zero k below = (0, omega arith)
  start_aligned h (suc i) k below = by_case (ℕ_discrete (width_at list i) 0) (start_aligned h i (omega arith) (λ a c. below a (omega arith)))
    where
      by_case : Dec (width_at list i ≡ 0) → Multiple (slice_length l h) (matrix_start l n first list i)
          → Multiple (slice_length l h) (opened l n first (suc i) (matrix_start l n first list i + width_at list i * slice_length l (log_at list i)))
      by_case (yes e) m =
          (m.0, opened-within l n first (suc i) _ k ∙ omega (arith, m.1, ap (λ (x : ℕ). x * slice_length l (log_at list i)) e))
      by_case (no e) m =
          let g = longer l h (log_at list i) (below i (omega arith) (omega arith)) in (
            m.0 + width_at list i * g.0,
            opened-within l n first (suc i) _ k ∙ omega (arith, m.1, add-mul m.0 (width_at list i * g.0) (slice_length l h), mul_assoc (width_at list i) g.0 (slice_length l h), ap (λ (x : ℕ). width_at list i * x) g.1),
          )

  matrix_aligned' : (i : ℕ) → i < count_of list → 0 < width_at list i → Multiple (slice_length l (log_at list i)) (matrix_start l n first list i)
  matrix_aligned' i h k = by_case (dec_le first i)
    where
      by_case : Dec (first ≤ i) → Multiple (slice_length l (log_at list i)) (matrix_start l n first list i)
      by_case (yes e) =
          let L = slice_length l (log_at list i) in
          let m = 2 ^ (l + n - max (log_at list i) l) in
          let d = slice_divides l n (log_at list i) (walk_low l n first list walks i h k) in (
            matrix_start l n first list i / height l n * m,
            omega (
              arith,
              div-add-mod' (matrix_start l n first list i) (height l n),
              start_multiple l n first list i e,
              ap (λ (x : ℕ). matrix_start l n first list i / height l n * x) (d ∙ mul_comm L m),
              mul_assoc (matrix_start l n first list i / height l n) m L,
            ),
          )
      by_case (no e) = start_aligned (log_at list i) i (omega arith) (λ a c p. falls first list rises i (omega arith) a c p k)

  -- every start is a multiple of its slice's length, and so is every starting row
  pub start_is_multiple : (i j : ℕ) → i < count_of list → j < width_at list i → column_start l n first list i j % slice_length l (log_at list i) ≡ 0
  start_is_multiple i j h k =
      let m = matrix_aligned' i h (omega arith) in
      multiple_mod _ _ (m.0 + j, omega (arith, m.1, add-mul m.0 j (slice_length l (log_at list i))))

-- each matrix's slices are one unbroken run, and in one commitment the next matrix follows
pub unbroken : (l n : ℕ) (list : List ℕ) (i : ℕ) → suc i < count_of list → matrix_start l n (count_of list) list (suc i) ≡ matrix_start l n (count_of list) list i + matrix_length l list i
unfolding matrix_start
unbroken l n list i h = opened-within l n (count_of list) (suc i) (matrix_start l n (count_of list) list i + matrix_length l list i) h

-- a column ends where the next one starts, or before it
column_in : (l n first : ℕ) (list : List ℕ) (i j : ℕ) → j < width_at list i → column_start l n first list i j + slice_length l (log_at list i) ≤ matrix_start l n first list i + matrix_length l list i
unfolding matrix_length
column_in l n first list i j h =
    omega (arith, add-mul j 1 (slice_length l (log_at list i)), mul-le-mul_right {m = j + 1} {n = width_at list i} (slice_length l (log_at list i)) (omega arith))

-- slices do not overlap
pub apart : (l n first : ℕ) (list : List ℕ) (i j i' j' : ℕ) → j < width_at list i → columns_before list i + j < columns_before list i' + j' → j' < width_at list i'
    → column_start l n first list i j + slice_length l (log_at list i) ≤ column_start l n first list i' j'
unfolding columns_before
apart l n first list i j i' j' h k h' = by_case (ℕ_discrete i i') (dec_lt i i')
  where
    by_case : Dec (i ≡ i') → Dec (i < i') → column_start l n first list i j + slice_length l (log_at list i) ≤ column_start l n first list i' j'
    by_case (yes e) d =
        let g : j + 1 ≤ j' = omega (arith, ap (columns_before list) e) in
        omega (arith, add-mul j 1 (slice_length l (log_at list i)), mul-le-mul_right {m = j + 1} {n = j'} (slice_length l (log_at list i)) g, ap (λ (x : ℕ). column_start l n first list x j') e)
    by_case (no e) (yes d) = omega (arith, column_in l n first list i j h, matrix_ends l n first list i, starts_mono l n first list (suc i) i' d)
    by_case (no e) (no d) =
        let g : suc i' ≤ i = omega arith in
        absurd (omega (arith, before_mono list (suc i') i g))

first_start : (l n first : ℕ) (list : List ℕ) → matrix_start l n first list zero ≡ 0
unfolding matrix_start
first_start l n first list = refl

no_stack : (l n : ℕ) (list : List ℕ) → count_of list ≡ 0 → stack_width l n (count_of list) list ≡ 0
no_stack l n list e = ap (λ (k : ℕ). matrix_start l n (count_of list) list k / height l n) e ∙ (ap (λ (k : ℕ). k / height l n) (first_start l n (count_of list) list) ∙ zero-div (height l n))

-- a slice that lies inside a stack column and has that column's first cell is in it
same_column : (H s c L : ℕ) → 0 < H → s ≤ c * H → c * H < s + L → s % H + L ≤ H → s / H ≡ c
same_column H s c L p a b e =
    let q = div-add-mod' s H in
    let up : c < s / H + 1 = lt_of_mul-lt-mul_right H {m = c} {n = s / H + 1} (omega (arith, q, add-mul (s / H) 1 H)) in
    let down : s / H < c + 1 = lt_of_mul-lt-mul_right H {m = s / H} {n = c + 1} (omega (arith, q, add-mul c 1 H)) in
    omega arith

-- the stack columns of one commitment: every one below the stack width is opened by a slice, and no slice is in another
module _ (l n : ℕ) (list : List ℕ) (ok : plan_number l n list ≡ 0) where
  laid : laid_number l n (count_of list) list ≡ 0
  laid = (plan-passed l n list ok).1

  -- a cell before the end of matrix i lies in a slice
  pub record Covered (x : ℕ) : Type 0 where
    pub matrix : ℕ
    pub column : ℕ
    pub there : matrix < count_of list
    pub within : column < width_at list matrix
    pub low : column_start l n (count_of list) list matrix column ≤ x
    pub high : x < column_start l n (count_of list) list matrix column + slice_length l (log_at list matrix)

  here : (i : ℕ) → i < count_of list → (x : ℕ) → matrix_start l n (count_of list) list i ≤ x → x < matrix_start l n (count_of list) list i + matrix_length l list i → Covered x
  unfolding matrix_length
  here i h x a b =
      let L = slice_length l (log_at list i) in
      let y = x - matrix_start l n (count_of list) list i in
      record {
        matrix = i;
        column = y / L;
        there = h;
        within = (div-lt_iff_lt-mul {k = L} {x = y} {y = width_at list i} (slice-pos l (log_at list i))).1 (omega arith);
        low = omega (arith, div-mul-le_self y L);
        high = omega (arith, lt-div-mul-add {a = y} {b = L} (slice-pos l (log_at list i)));
      }

  covered : (i : ℕ) → i < count_of list → (x : ℕ) → x < matrix_start l n (count_of list) list i + matrix_length l list i → Covered x
  covered zero h x b = here zero h x (omega (arith, start_zero)) b
    where
      start_zero : matrix_start l n (count_of list) list zero ≡ 0
      start_zero = first_start l n (count_of list) list
  covered (suc i) h x b = by_case (dec_le (matrix_start l n (count_of list) list (suc i)) x) (covered i (omega arith) x)
    where
      by_case : Dec (matrix_start l n (count_of list) list (suc i) ≤ x) → (x < matrix_start l n (count_of list) list i + matrix_length l list i → Covered x) → Covered x
      by_case (yes e) before = here (suc i) h x e b
      by_case (no e) before = before (omega (arith, unbroken l n list i h))

  end_within : (m : ℕ) → suc m ≡ count_of list → matrix_start l n (count_of list) list (count_of list) ≤ matrix_start l n (count_of list) list m + matrix_length l list m + (height l n - 1)
  unfolding matrix_start
  end_within m e =
      omega (
        arith,
        ap (matrix_start l n (count_of list) list) (sym e),
        opened_later l n (count_of list) (suc m) (matrix_start l n (count_of list) list m + matrix_length l list m) (omega arith),
        round_least (height l n) (matrix_start l n (count_of list) list m + matrix_length l list m),
      )

  -- every stack column below the stack width is opened by a slice
  pub opened_by : (c : ℕ) → c < stack_width l n (count_of list) list → (i : ℕ) × (j : ℕ) × (i < count_of list) × (j < width_at list i) × (stack_column l n (column_start l n (count_of list) list i j) ≡ c)
  opened_by c h = by_case (count_of list) refl
    where
      by_case : (m : ℕ) → m ≡ count_of list → (i : ℕ) × (j : ℕ) × (i < count_of list) × (j < width_at list i) × (stack_column l n (column_start l n (count_of list) list i j) ≡ c)
      by_case zero e = absurd (omega (arith, h, none))
        where
          none : stack_width l n (count_of list) list ≡ 0
          none = no_stack l n list (sym e)
      by_case (suc m) e =
          let room : c * height l n + height l n ≤ matrix_start l n (count_of list) list (count_of list) =
          omega (arith, width-cells l n list _ refl, add-mul c 1 (height l n), mul-le-mul_right {m = c + 1} {n = stack_width l n (count_of list) list} (height l n) (omega arith)) in
          let v = covered m (omega arith) (c * height l n) (omega (arith, room, end_within m e, pow_pos (l + n))) in
          let s = column_start l n (count_of list) list v.matrix v.column in (
            v.matrix,
            v.column,
            v.there,
            v.within,
            same_column (height l n) s c (slice_length l (log_at list v.matrix)) (pow_pos (l + n)) v.low v.high (inside-height l n (count_of list) list laid v.matrix v.column v.there v.within),
          )

  -- and every slice lies in one of them
  pub within-width : (i j : ℕ) → i < count_of list → j < width_at list i → stack_column l n (column_start l n (count_of list) list i j) < stack_width l n (count_of list) list
  within-width i j h k =
      (div-lt_iff_lt-mul {k = height l n} {x = column_start l n (count_of list) list i j} {y = stack_width l n (count_of list) list} (pow_pos (l + n))).1
      (omega (
        arith,
        width-cells l n list _ refl,
        column_in l n (count_of list) list i j k,
        slice-pos l (log_at list i),
        matrix_ends l n (count_of list) list i,
        starts_mono l n (count_of list) list (suc i) (count_of list) h,
      ))
