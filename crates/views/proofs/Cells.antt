-- Where the cells of a strided view stand: the tests by quotients say whether the slice reaches a cell.
use mathlib.Core.Path.{◌≡◌, refl, sym, ◌∙◌, ap}
use mathlib.Core.Bool.{Bool, true, false, cond}
use mathlib.Core.List.{List}
use Prim.Native.Nat.{ℕ, ◌+◌, ◌-◌, ◌*◌, ◌/◌, ◌%◌, ◌≤◌, ◌<◌}
use native.Mathlib.Nat.{add-mul, mul_assoc, mul_comm, mul-one, mul-pos, mul-le-mul_left, mul-le-mul_right, div-eq_of_lt, le-div_iff_mul-le, div-lt_iff_lt-mul, div-mul-le_self}
use native.Mathlib.Omega.{arith}
use lib.ListN.{length, get_or}
use lib.Dec.{eqb}
use borrow.Author.Tests.{lt-ltb, le-ltb, eq-eqb, ne_eqb}
use Rattle.std.specs.declared.result.Result.TheVariants.{Ok, Err}
use Rattle.field.specs.declared.answer.Refusal.TheVariants.{NoSuchColumn}
use Rattle.views.specs.Strided.{height_of, cell_index, has_cell, cell_of}

-- the rows above, all columns together, times the stride
pub index_is : (height stride row col : ℕ) → (col * height + row) * stride ≡ cell_index height stride row col
index_is height stride row col = add-mul (col * height) row stride ∙ ap (λ (x : ℕ). x + row * stride) (mul_assoc col height stride)

-- the last multiple of the stride in a slice of n words, and a cell that it reaches
pub reaches : (n height stride row col : ℕ) → 0 < n → 0 < stride → row < height → row ≤ (n - 1) / stride → col ≤ ((n - 1) / stride - row) / height
    → (col * height + row) * stride < n
reaches n height stride row col some apart inside r c =
    let k : col * height ≤ (n - 1) / stride - row = (le-div_iff_mul-le {k = height} {x = col} {y = (n - 1) / stride - row} (omega (arith, inside))).0 c in
    let m : (col * height + row) * stride ≤ (n - 1) / stride * stride = mul-le-mul_right stride (omega (arith, k, r)) in
    omega (arith, m, div-mul-le_self (n - 1) stride, some)

pub steps_less : (n k stride : ℕ) → 0 < stride → k * stride < n → k < n
steps_less n k stride apart h = omega (arith, mul-le-mul_left k apart, mul-one k, h)

-- a row past it, and a column past it
pub row_past : (n height stride row col : ℕ) → 0 < n → 0 < stride → (n - 1) / stride < row → n ≤ cell_index height stride row col
row_past n height stride row col some apart h =
    let k : n - 1 < row * stride = (div-lt_iff_lt-mul apart).0 h in
    omega (arith, k, some)

pub column_past : (n height stride row col : ℕ) → 0 < n → 0 < stride → row < height → row ≤ (n - 1) / stride → ((n - 1) / stride - row) / height < col
    → n ≤ cell_index height stride row col
column_past n height stride row col some apart inside r h =
    let k : (n - 1) / stride - row < col * height = (div-lt_iff_lt-mul {k = height} {x = (n - 1) / stride - row} {y = col} (omega (arith, inside))).0 h in
    let m : n - 1 < (col * height + row) * stride = (div-lt_iff_lt-mul apart).0 (omega (arith, k, r)) in
    omega (arith, m, index_is height stride row col, some)

module _ (values : List ℕ) (width height stride row col : ℕ) where
  pub no_column : width ≤ col → Err NoSuchColumn ≡ cell_of values width height stride row col
  unfolding cell_of has_cell
  no_column h = simp (le-ltb _ _ h)

  pub no_row : col < width → height ≤ row → Err NoSuchColumn ≡ cell_of values width height stride row col
  unfolding cell_of has_cell
  no_row c h = simp (lt-ltb _ _ c, le-ltb _ _ h)

  module _ (c : col < width) (r : row < height) where
    pub no_stride : stride ≡ 0 → Err NoSuchColumn ≡ cell_of values width height stride row col
    unfolding cell_of has_cell
    no_stride h = simp (lt-ltb _ _ c, lt-ltb _ _ r, le-ltb 0 stride (omega (arith, h)))

    pub no_word : 0 < stride → length values ≤ cell_index height stride row col → Err NoSuchColumn ≡ cell_of values width height stride row col
    unfolding cell_of has_cell
    no_word s h = simp (lt-ltb _ _ c, lt-ltb _ _ r, lt-ltb _ _ s, le-ltb _ _ h)

    pub word_at : (at : ℕ) → 0 < stride → at ≡ (col * height + row) * stride → at < length values
        → Ok (get_or values at 0) ≡ cell_of values width height stride row col
    unfolding cell_of has_cell
    word_at at s e h = simp (lt-ltb _ _ c, lt-ltb _ _ r, lt-ltb _ _ s, ← index_is height stride row col, ← e, lt-ltb _ _ h)

-- The height. A product of positive numbers that a slice reaches, and a slice too short for one row
none : (t : Bool) (h : ℕ) → h ≡ 0 → 0 ≡ cond t h 0
none true h e = sym e
none false h e = refl

module _ (n width stride : ℕ) where
  pub no_width : width ≡ 0 → 0 ≡ height_of n width stride
  unfolding height_of
  no_width h = simp (h, eq-eqb (0 * stride) 0 (omega arith))

  pub no_apart : stride ≡ 0 → 0 ≡ height_of n width stride
  unfolding height_of
  no_apart h = simp (h, eq-eqb (width * 0) 0 (omega arith))

  module _ (w : 0 < width) (s : 0 < stride) where
    pub too_short : n / width < stride → 0 ≡ height_of n width stride
    unfolding height_of
    too_short h =
        let k : n < stride * width = (div-lt_iff_lt-mul w).0 h in
        simp (ne_eqb (width * stride) 0 (λ e. omega (arith, e, mul-pos w s))) (none (eqb (n % (width * stride)) 0) (n / (width * stride)) (div-eq_of_lt {n = n} {m = width * stride} (rw (mul_comm width stride) k)))

    pub row_fits : stride ≤ n / width → width * stride ≤ n
    row_fits h = rw (mul_comm width stride) ((le-div_iff_mul-le w).0 h)

    pub not_whole : (n % (width * stride) ≡ 0 → ⊥) → 0 ≡ height_of n width stride
    unfolding height_of
    not_whole h = simp (ne_eqb (width * stride) 0 (λ e. omega (arith, e, mul-pos w s)), ne_eqb (n % (width * stride)) 0 h)

    pub whole : n % (width * stride) ≡ 0 → n / (width * stride) ≡ height_of n width stride
    unfolding height_of
    whole h = simp (ne_eqb (width * stride) 0 (λ e. omega (arith, e, mul-pos w s)), eq-eqb (n % (width * stride)) 0 h)
