-- The walk gives the columns in document 01's order: its first is column 0, and after column k comes column k + 1.
-- For every list that 1, 2 and 4 let pass. Assumes nothing.
use Prim.Native.Nat.{ℕ, zero, suc, ◌+◌, ◌-◌, ◌*◌, ◌^◌, ◌<◌, ◌≤◌}
use mathlib.Core.Path.{◌≡◌, refl, sym, ap, ◌∙◌}
use mathlib.Core.Bool.{true, false, cond, not}
use mathlib.Core.List.{List}
use native.Mathlib.Nat.{add-mul}
use native.Mathlib.Numerals.{add-one}
use native.Mathlib.Decide.{dec_lt, ℕ_discrete}
use native.Mathlib.Omega.{arith}
use lib.Dec.{ltb, eqb}
use borrow.Author.Tests.{lt-ltb, le-ltb, eq-eqb, ne_eqb}
use Rattle.layout.specs.Triples.{count_of, width_at, log_at, flag_at, columns_before, column_count}
use Rattle.layout.specs.Placing.{slice_length, opened, matrix_length, matrix_start, column_start}
use Rattle.layout.specs.Refusals.{limits_number}
use Rattle.layout.specs.Columns.{column_from, column_of, end_mark, located, column_at, outside, oversized, is_column, strays, sought, walk_first, column_after, walk_next}
use Rattle.layout.specs.Shaped.{Laid}
use Rattle.layout.proofs.Firsts.{or_skip, passed, or_none, and_all}
use Rattle.layout.proofs.Slices.{cells-small, empty_adds}
use Rattle.layout.proofs.Turns.{start_small}

pub limits_pass : (l n : ℕ) → l ≤ 10 → n ≤ 20 → l + n ≤ 24 → limits_number l n ≡ 0
unfolding limits_number
limits_pass l n a b c =
    or_skip _ _ (passed 1 _ (le-ltb 10 l a)) ∙ (or_skip _ _ (passed 1 _ (le-ltb 20 n b)) ∙ passed 1 _ (le-ltb 24 (l + n) c))

pub is_column_lem : (l n first : ℕ) (list : List ℕ) (i j : ℕ) → i < count_of list → j < width_at list i → is_column list (column_of l n first list i j) ≡ true
unfolding is_column
is_column_lem l n first list i j h k =
    and_all _ _ (lt-ltb i (count_of list) h)
    (and_all _ _ (lt-ltb j (width_at list i) k)
    (and_all _ _ (eq-eqb (log_at list i) (log_at list i) refl) (eq-eqb (flag_at list i) (flag_at list i) refl)))

module _ (l n first : ℕ) (list : List ℕ) (ok : Laid l n list) where
  not-outside : outside l n list ≡ false
  unfolding outside
  not-outside =
      let s = ok.shaped in
      simp (limits_pass l n s.skip s.stack s.sum, le-ltb 4111 (count_of list) s.few)

  -- where a matrix starts is far below what a word holds
  pub start_bound : (i : ℕ) → i ≤ count_of list → matrix_start l n first list i ≤ i * 2 ^ 37
  unfolding matrix_start matrix_length
  start_bound zero h = omega arith
  start_bound (suc i) h =
      let s = ok.shaped in
      let b = start_small l n first i (matrix_start l n first list i) (width_at list i) (log_at list i) (matrix_start l n first list (suc i))
      s.sum (s.widths i h) (λ k. omega (arith, ok.logs i h k, s.sum)) (ap (λ (j : ℕ). opened l n first j (matrix_start l n first list i + matrix_length l list i)) (sym (add-one i)))
      (start_bound i (omega arith)) in
      omega (arith, b)

  -- the cells of the columns before column j
  pub columns-small : (i j : ℕ) → i < count_of list → j < width_at list i → j * slice_length l (log_at list i) ≤ 2 ^ 36
  columns-small i j h k =
      let s = ok.shaped in
      cells-small l (log_at list i) j (omega (arith, s.skip)) (omega (arith, ok.logs i h (omega arith), s.sum)) (omega (arith, s.widths i h))

  not-oversized : (i : ℕ) → i < count_of list → 0 < width_at list i → oversized l n (width_at list i) (log_at list i) ≡ false
  unfolding oversized
  not-oversized i h k = or_none _ _ (le-ltb 4096 (width_at list i) (ok.shaped.widths i h)) (le-ltb (l + n) (log_at list i) (ok.logs i h k))

  not-strays : (i j : ℕ) → i < count_of list → j < width_at list i → strays l n list (column_of l n first list i j) ≡ false
  unfolding strays
  not-strays i j h k =
      let s = ok.shaped in
      let small : column_start l n first list i j ≤ 2 ^ 60 =
      omega (arith, start_bound i (omega arith), columns-small i j h k, s.few) in
      or_none _ _ not-outside
      (or_none _ _ (ap not (is_column_lem l n first list i j h k))
      (or_none _ _ (not-oversized i h (omega arith)) (le-ltb (2 ^ 60) (column_start l n first list i j) small)))

  next_start : (i j : ℕ) → column_start l n first list i j + slice_length l (log_at list i) ≡ column_start l n first list i (j + 1)
  next_start i j = omega (arith, add-mul j 1 (slice_length l (log_at list i)))

  -- after a matrix's last column the next matrix starts
  matrix_next : (i j w : ℕ) → suc j ≡ w → w ≡ width_at list i → opened l n first (suc i) (column_start l n first list i j + slice_length l (log_at list i)) ≡ matrix_start l n first list (suc i)
  unfolding matrix_start matrix_length
  matrix_next i j w e f =
      ap (opened l n first (suc i))
      (omega (arith, add-mul j 1 (slice_length l (log_at list i)), ap (λ (x : ℕ). x * slice_length l (log_at list i)) (sym (add-one j)), ap (λ (x : ℕ). x * slice_length l (log_at list i)) (e ∙ f)))

  start_empty : (i : ℕ) → width_at list i ≡ 0 → opened l n first (suc i) (matrix_start l n first list i) ≡ matrix_start l n first list (suc i)
  unfolding matrix_start matrix_length
  start_empty i e = ap (opened l n first (suc i)) (empty_adds _ _ _ e)

  sought-located : (r i : ℕ) → r + i ≡ count_of list → sought l n first list r i (matrix_start l n first list i) ≡ located l n first list r i 0
  unfolding sought located
  sought-located zero i h = refl
  sought-located (suc r) i h = by_case (ℕ_discrete (width_at list i) 0) (sought-located r (suc i) (omega arith))
    where
      by_case : Dec (width_at list i ≡ 0)
          → sought l n first list r (suc i) (matrix_start l n first list (suc i)) ≡ located l n first list r (suc i) 0
          → cond (eqb (width_at list i) 0) (sought l n first list r (suc i) (opened l n first (suc i) (matrix_start l n first list i)))
          (cond (oversized l n (width_at list i) (log_at list i)) (end_mark list) (column_from list i 0 (matrix_start l n first list i)))
          ≡ cond (ltb 0 (width_at list i)) (column_of l n first list i 0) (located l n first list r (suc i) (0 - width_at list i))
      by_case (yes e) rest =
          let z : 0 - width_at list i ≡ 0 = omega arith in
          let q = start_empty i e in
          simp (eq-eqb (width_at list i) 0 e, le-ltb 0 (width_at list i) (omega arith), z, q) rest
      by_case (no e) rest =
          let z : matrix_start l n first list i + 0 * slice_length l (log_at list i) ≡ matrix_start l n first list i = omega arith in
          simp (ne_eqb (width_at list i) 0 e, not-oversized i (omega arith) (omega arith), lt-ltb 0 (width_at list i) (omega arith), z)

  pub walk_first_lem : walk_first l n first list ≡ column_at l n first list 0
  unfolding walk_first matrix_start
  walk_first_lem = simp not-outside (sought-located (count_of list) 0 (omega arith))

  -- from column j of matrix i to the next one
  after_inner : (i j : ℕ) → i < count_of list → suc j < width_at list i → walk_next l n first list (column_of l n first list i j) ≡ column_of l n first list i (suc j)
  unfolding walk_next column_after
  after_inner i j h k =
      simp (not-strays i j h (omega arith), lt-ltb j (width_at list i - 1) (omega arith), next_start i j, add-one j)

  after_last : (r i j : ℕ) → suc r + i ≡ count_of list → suc j ≡ width_at list i → walk_next l n first list (column_of l n first list i j) ≡ located l n first list r (suc i) 0
  unfolding walk_next column_after
  after_last r i j h k =
      let e : count_of list - suc i ≡ r = omega arith in
      simp (not-strays i j (omega arith) (omega arith), le-ltb j (width_at list i - 1) (omega arith), add-one i, e, matrix_next i j (width_at list i) k refl)
      (sought-located r (suc i) (omega arith))

  next_located : (r i k : ℕ) → r + i ≡ count_of list → columns_before list i + k < column_count list
      → walk_next l n first list (located l n first list r i k) ≡ located l n first list r i (suc k)
  unfolding located columns_before
  next_located zero i k h room =
      let e : i ≡ count_of list = omega arith in
      absurd (omega (arith, ap (columns_before list) e))
  next_located (suc r) i k h room = by_case (dec_lt k (width_at list i)) (dec_lt (suc k) (width_at list i)) (next_located r (suc i) (k - width_at list i))
    where
      by_case : Dec (k < width_at list i) → Dec (suc k < width_at list i)
          → (r + suc i ≡ count_of list → columns_before list (suc i) + (k - width_at list i) < column_count list
          → walk_next l n first list (located l n first list r (suc i) (k - width_at list i)) ≡ located l n first list r (suc i) (suc (k - width_at list i)))
          → walk_next l n first list (cond (ltb k (width_at list i)) (column_of l n first list i k) (located l n first list r (suc i) (k - width_at list i)))
          ≡ cond (ltb (suc k) (width_at list i)) (column_of l n first list i (suc k)) (located l n first list r (suc i) (suc k - width_at list i))
      by_case (yes p) (yes q) rest =
          simp (lt-ltb k (width_at list i) p, lt-ltb (suc k) (width_at list i) q) (after_inner i k (omega arith) q)
      by_case (yes p) (no q) rest =
          let z : suc k - width_at list i ≡ 0 = omega arith in
          simp (lt-ltb k (width_at list i) p, le-ltb (suc k) (width_at list i) (omega arith), z) (after_last r i k h (omega arith))
      by_case (no p) q rest =
          let z : suc k - width_at list i ≡ suc (k - width_at list i) = omega arith in
          simp (le-ltb k (width_at list i) (omega arith), le-ltb (suc k) (width_at list i) (omega arith), z) (rest (omega arith) (omega arith))

  pub walk_next_lem : (k : ℕ) → k < column_count list → walk_next l n first list (column_at l n first list k) ≡ column_at l n first list (k + 1)
  unfolding columns_before
  walk_next_lem k h = next_located (count_of list) 0 k (omega arith) (omega arith) ∙ ap (column_at l n first list) (sym (add-one k))
