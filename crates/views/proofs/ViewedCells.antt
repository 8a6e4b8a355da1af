-- A cell of a matrix's view is the cell of the stacked matrix at its column's start and its row's stride.
use mathlib.Core.Path.{◌≡◌, refl, sym, ◌∙◌, ap}
use mathlib.Core.List.{List}
use Prim.Native.Nat.{ℕ, ◌+◌, ◌-◌, ◌*◌, ◌^◌, ◌<◌, ◌≤◌}
use native.Mathlib.Nat.{add-mul, mul_assoc, mul_comm, mul-le-mul_right, mul-mod_left, mul-div_left, mul-pos}
use native.Mathlib.Omega.{arith}
use lib.ListN.{length, take, drop, get_or, length-take, length-drop}
use lib.Pow.{pow_pos}
use lib.Seq.{get_or-take, get_or-drop}
use borrow.Author.Tests.{eq-eqb}
use Rattle.std.specs.declared.result.Result.TheVariants.{Ok}
use Rattle.layout.specs.Triples.{count_of, width_at, log_at}
use Rattle.layout.specs.Placing.{matrix_start, matrix_length, column_start}
use Rattle.layout.specs.Stacked.{stride_of}
use Rattle.layout.specs.Viewing.{view_number, view_of}
use Rattle.layout.proofs.Fills.{stride-slice}
use Rattle.layout.proofs.Parts.{view_passed, view_inside}
use Rattle.views.specs.Strided.{height_of, cell_of}
use Rattle.views.proofs.Cells.{index_is, word_at, whole}

-- a row of a column that is there lies in the matrix
within : (w h s row col : ℕ) → 0 < s → row < h → col < w → (col * h + row) * s < w * (h * s)
within w h s row col apart r c =
    let a : (col + 1) * h ≤ w * h = mul-le-mul_right h (omega (arith, c)) in
    let b : (col * h + row + 1) * s ≤ w * h * s = mul-le-mul_right s (omega (arith, a, add-mul col 1 h, r)) in
    omega (arith, b, add-mul (col * h + row) 1 s, mul_assoc w h s, apart)

-- the part, where the view is not refused
part_of : (l n : ℕ) (list stacked : List ℕ) (i : ℕ) → view_number l n list stacked i ≡ 0
    → view_of l n list stacked i ≡ take (matrix_length l list i) (drop (matrix_start l n (count_of list) list i) stacked)
unfolding view_of
part_of l n list stacked i z = simp (eq-eqb (view_number l n list stacked i) 0 z)

module _ (l n : ℕ) (list stacked : List ℕ) (i row col : ℕ) (z : view_number l n list stacked i ≡ 0) (r : row < 2 ^ log_at list i) (c : col < width_at list i) where
  inside : (col * 2 ^ log_at list i + row) * stride_of l (log_at list i) < matrix_length l list i
  unfolding matrix_length
  inside =
      rw (← stride-slice l (log_at list i)) (within (width_at list i) (2 ^ log_at list i) (stride_of l (log_at list i)) row col (pow_pos (l - log_at list i)) r c)

  long : (k : ℕ) → k < matrix_length l list i → k < length (take (matrix_length l list i) (drop (matrix_start l n (count_of list) list i) stacked))
  long k h =
      omega (arith, h, length-take (matrix_length l list i) (drop (matrix_start l n (count_of list) list i) stacked), length-drop (matrix_start l n (count_of list) list i) stacked, view_inside l n list stacked i (view_passed l n list stacked i z))

  pub viewed_cell : cell_of (view_of l n list stacked i) (width_at list i) (2 ^ log_at list i) (stride_of l (log_at list i)) row col
      ≡ Ok (get_or stacked (column_start l n (count_of list) list i col + row * stride_of l (log_at list i)) 0)
  viewed_cell =
      rw (part_of l n list stacked i z) (sym (word_at _ (width_at list i) (2 ^ log_at list i) (stride_of l (log_at list i)) row col c r at_word (pow_pos (l - log_at list i)) refl (long at_word inside)) ∙ ap Ok found)
    where
      at_word : ℕ
      at_word = (col * 2 ^ log_at list i + row) * stride_of l (log_at list i)

      place : matrix_start l n (count_of list) list i + at_word ≡ column_start l n (count_of list) list i col + row * stride_of l (log_at list i)
      place =
          omega (arith, index_is (2 ^ log_at list i) (stride_of l (log_at list i)) row col, ap (λ (x : ℕ). col * x) (stride-slice l (log_at list i)))

      found : get_or (take (matrix_length l list i) (drop (matrix_start l n (count_of list) list i) stacked)) at_word 0
          ≡ get_or stacked (column_start l n (count_of list) list i col + row * stride_of l (log_at list i)) 0
      found =
          get_or-take (matrix_length l list i) (drop (matrix_start l n (count_of list) list i) stacked) at_word 0 inside
          ∙ get_or-drop (matrix_start l n (count_of list) list i) stacked at_word 0 ∙ ap (λ (x : ℕ). get_or stacked x 0) place

-- A part of whole columns has their height, so the view is the one that `new` makes of its slice, width and stride
pub rows_of : (w h s : ℕ) → 0 < w → 0 < s → height_of (w * (h * s)) w s ≡ h
rows_of w h s a b =
    let e : w * (h * s) ≡ h * (w * s) = sym (mul_assoc w h s) ∙ ap (λ (x : ℕ). x * s) (mul_comm w h) ∙ mul_assoc h w s in
    sym (whole (w * (h * s)) w s a b (rw e (mul-mod_left h (w * s)))) ∙ rw e (mul-div_left h (mul-pos a b))

pub viewed_height : (l n : ℕ) (list stacked : List ℕ) (i : ℕ) → view_number l n list stacked i ≡ 0
    → height_of (length (view_of l n list stacked i)) (width_at list i) (stride_of l (log_at list i)) ≡ 2 ^ log_at list i
unfolding view_of matrix_length
viewed_height l n list stacked i z =
    let v = view_passed l n list stacked i z in
    let size : length (view_of l n list stacked i) ≡ width_at list i * (2 ^ log_at list i * stride_of l (log_at list i)) =
    ap length (part_of l n list stacked i z)
    ∙ omega (
      arith,
      length-take (matrix_length l list i) (drop (matrix_start l n (count_of list) list i) stacked),
      length-drop (matrix_start l n (count_of list) list i) stacked,
      view_inside l n list stacked i v,
    )
    ∙ ap (λ (x : ℕ). width_at list i * x) (sym (stride-slice l (log_at list i))) in
    rw size (rows_of (width_at list i) (2 ^ log_at list i) (stride_of l (log_at list i)) (omega (arith, v.some)) (pow_pos (l - log_at list i)))
