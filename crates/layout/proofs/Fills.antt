-- Filling the stacked matrix, matrix by matrix: each goes where the plan places it. Assumes nothing.
use Prim.Native.Nat.{ℕ, zero, suc, ◌+◌, ◌-◌, ◌*◌, ◌^◌, ◌<◌, ◌≤◌, max}
use mathlib.Core.Path.{◌≡◌, refl, sym, ap, ◌∙◌}
use mathlib.Core.List.{List, ◌++◌}
use native.Mathlib.Nat.{mul_assoc, sub-zero}
use native.Mathlib.Numerals.{add-one}
use native.Mathlib.Omega.{arith}
use lib.ListN.{length, take, drop, replicate, length-append, length-take, length-drop, length-replicate}
use lib.Seq.{take_at}
use lib.Pow.{pow_pos, pow-add}
use Rattle.layout.specs.Triples.{count_of, width_at, log_at}
use Rattle.layout.specs.Placing.{slice_length, matrix_length, matrix_start}
use Rattle.layout.specs.Stacked.{cells_of, cells_before, stride_of, spread, spread_matrix, stacked_up_to, padded, stacked_matrix}
use Rattle.layout.specs.Shaped.{Spreadable, Fillable}
use Rattle.layout.proofs.Slices.{slice_power, opened-within}
use Rattle.layout.proofs.Spreads.{length-spread}
use Rattle.layout.proofs.Parts.{matrix_ends, starts_mono, width-cells}

-- a column's cells at its stride take its slice
pub stride-slice : (l h : ℕ) → 2 ^ h * stride_of l h ≡ slice_length l h
stride-slice l h = sym (pow-add 2 h (l - h)) ∙ ap (λ (k : ℕ). 2 ^ k) most ∙ sym (slice_power l h)
  where
    most : h + (l - h) ≡ max h l
    most = omega arith

pub stride-cells : (l : ℕ) (list : List ℕ) (i : ℕ) → cells_of list i * stride_of l (log_at list i) ≡ matrix_length l list i
unfolding cells_of matrix_length
stride-cells l list i = mul_assoc (width_at list i) (2 ^ log_at list i) (stride_of l (log_at list i)) ∙ ap (λ (k : ℕ). width_at list i * k) (stride-slice l (log_at list i))

cells-more : (list : List ℕ) (i k : ℕ) → cells_before list i ≤ cells_before list (k + i)
unfolding cells_before
cells-more list i zero =
    let e : 0 + i ≡ i = omega arith in
    omega (arith, ap (cells_before list) e)
cells-more list i (suc k) =
    let e : suc k + i ≡ suc (k + i) = omega arith in
    omega (arith, cells-more list i k, ap (cells_before list) e)

pub cells_mono : (list : List ℕ) (i j : ℕ) → i ≤ j → cells_before list i ≤ cells_before list j
cells_mono list i j h =
    let e : (j - i) + i ≡ j = omega arith in
    omega (arith, cells-more list i (j - i), ap (cells_before list) e)

-- `lay` after i matrices
pub record Filling (l : ℕ) (list cells : List ℕ) (places i at from : ℕ) (ys : List ℕ) : Type 0 where
  pub bound : i ≤ count_of list
  pub at_is : at ≡ length (stacked_up_to l list cells i)
  pub from_is : from ≡ cells_before list i
  pub is : ys ≡ padded places (stacked_up_to l list cells i)
  pub fits : at ≤ places

module _ (l n : ℕ) (list cells : List ℕ) (places : ℕ) (ok : Fillable l n list cells places) where
  cells_there : (i : ℕ) → i < count_of list → cells_before list i + cells_of list i ≤ length cells
  unfolding cells_before
  cells_there i h = omega (arith, ok.cells_size, cells_mono list (suc i) (count_of list) h)

  matrix_size : (i : ℕ) → i < count_of list → length (spread_matrix l list cells i) ≡ matrix_length l list i
  unfolding spread_matrix
  matrix_size i h =
      let t : length (take (cells_of list i) (drop (cells_before list i) cells)) ≡ cells_of list i =
      length-take (cells_of list i) (drop (cells_before list i) cells) ∙ omega (arith, length-drop (cells_before list i) cells, cells_there i h) in
      length-spread (stride_of l (log_at list i)) _ (pow_pos (l - log_at list i)) ∙ (ap (λ (k : ℕ). k * stride_of l (log_at list i)) t ∙ stride-cells l list i)

  pub next_size : (i : ℕ) → i < count_of list → length (stacked_up_to l list cells (suc i)) ≡ length (stacked_up_to l list cells i) + matrix_length l list i
  unfolding stacked_up_to
  next_size i h = length-append (stacked_up_to l list cells i) (spread_matrix l list cells i) ∙ ap (λ (k : ℕ). length (stacked_up_to l list cells i) + k) (matrix_size i h)

  -- matrix i goes where the plan places it
  pub stacked_start : (i : ℕ) → i < count_of list → length (stacked_up_to l list cells i) ≡ matrix_start l n (count_of list) list i
  unfolding stacked_up_to matrix_start
  stacked_start zero h = refl
  stacked_start (suc i) h =
      next_size i (omega arith) ∙ (ap (λ (k : ℕ). k + matrix_length l list i) (stacked_start i (omega arith))
      ∙ sym (opened-within l n (count_of list) (suc i) _ h))

  stacked_room : (i : ℕ) → i < count_of list → length (stacked_up_to l list cells i) + matrix_length l list i ≤ places
  stacked_room i h =
      omega (
        arith,
        stacked_start i h,
        ok.places_size,
        width-cells l n list _ refl,
        matrix_ends l n (count_of list) list i,
        starts_mono l n (count_of list) list (suc i) (count_of list) h,
      )

  pub filling_start : (ys : List ℕ) → ys ≡ replicate places 0 → Filling l list cells places 0 0 0 ys
  unfolding stacked_up_to cells_before
  filling_start ys e = record { bound = omega arith; at_is = refl; from_is = refl; is = e ∙ ap (λ (k : ℕ). replicate k 0) (sym (sub-zero places)); fits = omega arith }

  module _ (i at from : ℕ) (ys : List ℕ) (w : Filling l list cells places i at from ys) where
    pub filling_length : length ys ≡ places
    filling_length =
        omega (
          arith,
          ap length w.is,
          length-append (stacked_up_to l list cells i) (replicate (places - length (stacked_up_to l list cells i)) 0),
          length-replicate {A = ℕ} (places - length (stacked_up_to l list cells i)) 0,
          w.at_is,
          w.fits,
        )

    front : take at ys ≡ stacked_up_to l list cells i
    front = ap (take at) w.is ∙ take_at (stacked_up_to l list cells i) _ at (sym w.at_is)

    module _ (there : i < count_of list) (count step : ℕ) (many : count ≡ cells_of list i) (far : step ≡ stride_of l (log_at list i)) where
      pub filling_cells : count * step ≡ matrix_length l list i
      filling_cells = ap (λ (k : ℕ). k * step) many ∙ (ap (λ (k : ℕ). cells_of list i * k) far ∙ stride-cells l list i)

      pub filling_room : at + count * step ≤ places
      filling_room = omega (arith, filling_cells, stacked_room i there, w.at_is)

      pub filling_there : from + count ≤ length cells
      filling_there = omega (arith, w.from_is, many, cells_there i there)

      pub filling_spreadable : Spreadable ys at cells from count step
      filling_spreadable =
          let left : places - length (stacked_up_to l list cells i) ≡ length ys - at = omega (arith, filling_length, w.at_is) in
          record {
            step = omega (arith, far, pow_pos (l - log_at list i));
            room = omega (arith, filling_room, filling_length);
            there = filling_there;
            zeros = w.is ∙ (ap (λ (zs : List ℕ). zs ++ replicate (places - length (stacked_up_to l list cells i)) 0) (sym front)
                ∙ ap (λ (k : ℕ). take at ys ++ replicate k 0) left);
          }

      pub filling_turn : (zs : List ℕ) → zs ≡ take at ys ++ spread step (take count (drop from cells)) ++ replicate (length ys - (at + count * step)) 0
          → Filling l list cells places (i + 1) (at + count * step) (from + count) zs
      unfolding stacked_up_to spread_matrix cells_before
      filling_turn zs e =
          let size : length (stacked_up_to l list cells (suc i)) ≡ at + count * step = next_size i there ∙ omega (arith, w.at_is, filling_cells) in
          let now' : take at ys ++ spread step (take count (drop from cells)) ≡ stacked_up_to l list cells (suc i) =
          ap (λ (xs : List ℕ). xs ++ spread step (take count (drop from cells))) front
          ∙ (ap (λ (k : ℕ). stacked_up_to l list cells i ++ spread k (take count (drop from cells))) far
          ∙ (ap (λ (k : ℕ). stacked_up_to l list cells i ++ spread (stride_of l (log_at list i)) (take k (drop from cells))) many
          ∙ ap (λ (k : ℕ). stacked_up_to l list cells i ++ spread (stride_of l (log_at list i)) (take (cells_of list i) (drop k cells))) w.from_is)) in
          let left : length ys - (at + count * step) ≡ places - length (stacked_up_to l list cells (suc i)) = omega (arith, filling_length, size) in
          record {
            bound = omega arith;
            at_is = sym size ∙ ap (λ (k : ℕ). length (stacked_up_to l list cells k)) (sym (add-one i));
            from_is = omega (arith, w.from_is, many, ap (cells_before list) (add-one i));
            is = e ∙ (ap (λ (xs : List ℕ). xs ++ replicate (length ys - (at + count * step)) 0) now'
                ∙ (ap (λ (k : ℕ). stacked_up_to l list cells (suc i) ++ replicate k 0) left
                ∙ ap (λ (k : ℕ). padded places (stacked_up_to l list cells k)) (sym (add-one i))));
            fits = filling_room;
          }

    pub filling_end : count_of list ≤ i → ys ≡ stacked_matrix l n list cells
    unfolding stacked_matrix
    filling_end h =
        let e : i ≡ count_of list = omega (arith, w.bound) in
        w.is ∙ (ap (λ (k : ℕ). padded places (stacked_up_to l list cells k)) e ∙ ap (λ (k : ℕ). padded k (stacked_up_to l list cells (count_of list))) ok.places_size)
