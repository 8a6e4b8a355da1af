-- When the columns of a matrix fit, one below the other: always where the first one starts at a multiple of their length;
-- where not, as long as they end before their stack column does. Assumes nothing.
use Prim.Native.Nat.{ℕ, ◌+◌, ◌-◌, ◌*◌, ◌/◌, ◌%◌, ◌^◌, ◌<◌, ◌≤◌, max}
use mathlib.Core.Path.{◌≡◌, refl, sym, ap, ◌∙◌, subst}
use native.Mathlib.Nat.{mod-lt, mod-add-mod, mod-eq_of_lt, add-mul-mod_self_right, mul-le-mul_right, lt_of_mul-lt-mul_right, add-mul, mul_comm}
use native.Mathlib.Omega.{arith}
use lib.Pow.{pow_pos}
use lib.Arith.{mod-mul, digits_mod}
use lib.Dec.{ltb}
use borrow.Author.Tests.{lt-ltb, le-ltb, ltb-false}
use Rattle.layout.specs.Checks.{refuse, first_of}
use Rattle.layout.specs.Placing.{height, slice_length, row_of}
use Rattle.layout.specs.Refusals.{column_number, matrix_number}
use Rattle.layout.proofs.Firsts.{skips, stops, passed, refused, or_passed, is_false, first_none, first_found, first_all, positive}
use Rattle.layout.proofs.Slices.{slice-pos, slice_divides, cells-small}

-- Numbers alone: slices of L rows in stack columns of m · L rows, from cell s on.
module _ (L m s : ℕ) (some : 0 < L) (room : 0 < m) where
  -- the row is q slices and s % L rows
  q_lt : s / L % m < m
  q_lt = mod-lt (s / L) room

  row_is : s % (m * L) ≡ s / L % m * L + s % L
  row_is = mod-mul s {m = m} {c = L} room some

  pub row-slice : s % (m * L) % L ≡ s % L
  row-slice = ap (λ (r : ℕ). r % L) row_is ∙ digits_mod (s / L % m) {m = L} {r = s % L} (mod-lt s some)

  pub aligned_fits : s % L ≡ 0 → s % (m * L) + L ≤ m * L
  aligned_fits e =
      omega (arith, row_is, add-mul (s / L % m) 1 L, mul-le-mul_right {m = s / L % m + 1} {n = m} L (omega (arith, q_lt)))

  pub below_fits : (w j : ℕ) → j < w → s % (m * L) + w * L ≤ m * L → (s + j * L) % (m * L) ≡ s % (m * L) + j * L
  below_fits w j h e =
      let f : j * L + L ≤ w * L = omega (arith, add-mul j 1 L, mul-le-mul_right {m = j + 1} {n = w} L (omega arith)) in
      sym (mod-add-mod s (m * L) (j * L)) ∙ mod-eq_of_lt (omega arith)

  -- the column that meets the stack column's end
  abbrev pub meets : ℕ
  meets = m - 1 - s / L % m

  pub meets_lt : (w : ℕ) → m * L < s % (m * L) + w * L → meets < w
  meets_lt w h =
      let g : m < s / L % m + w + 1 =
      lt_of_mul-lt-mul_right L {m = m} {n = s / L % m + w + 1}
      (omega (arith, row_is, mod-lt s some, add-mul (s / L % m + w) 1 L, add-mul (s / L % m) w L)) in
      omega (arith, q_lt)

  meets-row : s % (m * L) + (meets + 1) * L ≡ m * L + s % L
  meets-row =
      let e : s / L % m + (meets + 1) ≡ m = omega (arith, q_lt) in
      omega (arith, row_is, add-mul (s / L % m) (meets + 1) L, ap (λ (k : ℕ). k * L) e)

  pub meets-over : (s % L ≡ 0 → ⊥) → m * L < (s + meets * L) % (m * L) + L
  meets-over a =
      let r : (s + meets * L) % (m * L) ≡ s % (m * L) + meets * L =
      sym (mod-add-mod s (m * L) (meets * L)) ∙ mod-eq_of_lt (omega (arith, meets-row, add-mul meets 1 L, mod-lt s some)) in
      omega (arith, r, meets-row, add-mul meets 1 L, positive (s % L) a)

  pub meets_before : s % (m * L) + meets * L ≤ m * L
  meets_before = omega (arith, meets-row, add-mul meets 1 L, mod-lt s some)

-- The numbers of columns and matrices.
module _ (l n h : ℕ) (high : h ≤ l + n) where
  abbrev m : ℕ
  m = 2 ^ (l + n - max h l)

  divides : height l n ≡ m * slice_length l h
  divides = slice_divides l n h high ∙ mul_comm (slice_length l h) m

  pub column_fits : (s : ℕ) → row_of l n s + slice_length l h ≤ height l n → column_number l n h s ≡ 0
  unfolding column_number
  column_fits s e = sym (skips 4 _ _ (le-ltb (l + n) h high) (sym (passed 5 _ (le-ltb (height l n) _ e))))

  pub column-over : (s : ℕ) → height l n < row_of l n s + slice_length l h → column_number l n h s ≡ 5
  unfolding column_number
  column-over s e = sym (skips 4 _ _ (le-ltb (l + n) h high) (sym (refused 5 _ (lt-ltb (height l n) _ e))))

  pub slice_of_row : (s : ℕ) → row_of l n s % slice_length l h ≡ s % slice_length l h
  slice_of_row s = ap (λ (H : ℕ). s % H % slice_length l h) divides ∙ row-slice (slice_length l h) m s (slice-pos l h) (pow_pos _)

  pub matrix_aligned : (w s : ℕ) → s % slice_length l h ≡ 0 → matrix_number l n w h s ≡ 0
  unfolding matrix_number
  matrix_aligned w s e =
      first_none w _ (λ j k. column_fits _ (subst (λ (H : ℕ). (s + j * slice_length l h) % H + slice_length l h ≤ H) (sym divides)
      (aligned_fits (slice_length l h) m (s + j * slice_length l h) (slice-pos l h) (pow_pos _)
      (add-mul-mod_self_right s j (slice_length l h) ∙ e))))

  pub matrix_below : (w s : ℕ) → row_of l n s + w * slice_length l h ≤ height l n → matrix_number l n w h s ≡ 0
  unfolding matrix_number
  matrix_below w s e =
      let f : s % (m * slice_length l h) + w * slice_length l h ≤ m * slice_length l h =
      subst (λ (H : ℕ). s % H + w * slice_length l h ≤ H) divides e in
      first_none w _ (λ j k. column_fits _ (subst (λ (H : ℕ). (s + j * slice_length l h) % H + slice_length l h ≤ H) (sym divides)
      (omega (
        arith,
        f,
        below_fits (slice_length l h) m s (slice-pos l h) (pow_pos _) w j k f,
        add-mul j 1 (slice_length l h),
        mul-le-mul_right {m = j + 1} {n = w} (slice_length l h) (omega arith),
      ))))

  pub matrix_over : (w s : ℕ) → (s % slice_length l h ≡ 0 → ⊥) → height l n < row_of l n s + w * slice_length l h → 5 ≡ matrix_number l n w h s
  unfolding matrix_number
  matrix_over w s a e =
      let L = slice_length l h in
      let f : m * L < s % (m * L) + w * L = subst (λ (H : ℕ). H < s % H + w * L) divides e in
      let k = meets L m s (slice-pos l h) (pow_pos _) in
      first_found w k _ 5 (meets_lt L m s (slice-pos l h) (pow_pos _) w f)
      (matrix_below k s (subst (λ (H : ℕ). s % H + k * L ≤ H) (sym divides) (meets_before L m s (slice-pos l h) (pow_pos _))))
      (column-over (s + k * L) (subst (λ (H : ℕ). H < (s + k * L) % H + L) (sym divides) (meets-over L m s (slice-pos l h) (pow_pos _) a)))
      (λ z. omega arith)

pub column-high : (l n h s : ℕ) → l + n < h → column_number l n h s ≡ 4
unfolding column_number
column-high l n h s e = sym (stops 4 _ _ (omega arith) (lt-ltb (l + n) h e))

pub matrix_high : (l n w h s : ℕ) → 0 < w → l + n < h → 4 ≡ matrix_number l n w h s
unfolding matrix_number first_of
matrix_high l n w h s some e = first_found w 0 _ 4 some refl (column-high l n h _ e) (λ z. omega arith)

pub matrix_empty : (l n w h s : ℕ) → w ≡ 0 → matrix_number l n w h s ≡ 0
unfolding matrix_number
matrix_empty l n w h s e = first_none w _ (λ j k. absurd (omega arith))

-- what a matrix that fits says of its columns
pub matrix_fits : (l n w h s : ℕ) → matrix_number l n w h s ≡ 0 → (j : ℕ) → j < w → row_of l n (s + j * slice_length l h) + slice_length l h ≤ height l n
unfolding matrix_number column_number
matrix_fits l n w h s e j k =
    ltb-false _ _ (is_false 5 _ (omega arith) (or_passed (refuse 4 (ltb (l + n) h)) _ (first_all w _ e j k)).1)

pub matrix_low : (l n w h s : ℕ) → matrix_number l n w h s ≡ 0 → 0 < w → h ≤ l + n
unfolding matrix_number column_number
matrix_low l n w h s e k =
    ltb-false _ _ (is_false 4 _ (omega arith) (or_passed (refuse 4 (ltb (l + n) h)) _ (first_all w _ e 0 k)).0)

-- the tests of `place`, from the length and the height that it computed
module _ (l n w h s len H : ℕ) (high : h ≤ l + n) (is-len : len ≡ slice_length l h) (is-height : H ≡ height l n) where
  row-test : s % H % len ≡ s % slice_length l h
  row-test = ap (λ (x : ℕ). s % x % len) is-height ∙ (ap (λ (x : ℕ). s % height l n % x) is-len ∙ slice_of_row l n h high s)

  room-test : s % H + w * len ≡ row_of l n s + w * slice_length l h
  room-test = cc

  pub place_aligned : s % H % len ≡ 0 → 0 ≡ matrix_number l n w h s
  place_aligned e = sym (matrix_aligned l n h high w s (sym row-test ∙ e))

  pub place-below : s % H + w * len ≤ H → 0 ≡ matrix_number l n w h s
  place-below e = sym (matrix_below l n h high w s (omega (arith, room-test, is-height)))

  pub place-over : (s % H % len ≡ 0 → ⊥) → H < s % H + w * len → 5 ≡ matrix_number l n w h s
  place-over a e = matrix_over l n h high w s (λ z. a (row-test ∙ z)) (omega (arith, room-test, is-height))

  pub place-room : l ≤ 24 → h ≤ 24 → w ≤ 4096 → w * len ≤ 2 ^ 36
  place-room a b c = omega (arith, cells-small l h w a b c, ap (λ (x : ℕ). w * x) is-len)
