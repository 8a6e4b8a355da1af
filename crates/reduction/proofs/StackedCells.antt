-- The stacked matrix of one commitment, cell by cell: cell x of matrix i stands in the place that the plan gives it.
use mathlib.Core.Path.{◌≡◌, refl, sym, ◌∙◌, ap, ap₂}
use mathlib.Core.Logic.{◌⊎◌, inl, inr}
use mathlib.Core.Bool.{true, ◌&&◌}
use mathlib.Core.List.{List, [], ◌∷◌, ◌++◌}
use Prim.Native.Nat.{ℕ, zero, suc, ◌+◌, ◌-◌, ◌*◌, ◌<◌, ◌≤◌}
use native.Mathlib.Nat
use native.Mathlib.Nat.{eq-or-lt_of_le, le_of_suc-le-suc}
use native.Mathlib.Omega.{arith}
use lib.ListN.{length, get_or, take, drop, replicate, length-append, length-take, length-drop, length-replicate, get_or-append}
use lib.Seq.{get_or-append-add, get_or-take, get_or-drop}
use lib.Dec.{ltb}
use lib.Pow.{pow_pos}
use Rattle.field.specs.Word.{p}
use Rattle.field.specs.Slice.{canonical_words}
use Rattle.field.proofs.FourWords.{and_both}
use Rattle.layout.specs.Triples.{count_of, log_at}
use Rattle.layout.specs.Placing.{height, matrix_start, stack_width}
use Rattle.layout.specs.Stacked.{cells_of, cells_before, stride_of, spread, spread_matrix, stacked_up_to, stacked_matrix}
use Rattle.layout.specs.Shaped.{Fillable}
use Rattle.layout.proofs.Spreads.{length-spread}
use Rattle.layout.proofs.Parts.{matrix_ends, width-cells}
use Rattle.layout.proofs.Fills.{cells_mono, next_size, stacked_start}
use Rattle.reduction.proofs.ReturnedWords.{canonical_append}
use Rattle.reduction.proofs.SoundWork.{canonical_take, canonical_drop}

-- every s-th word of a spread is a cell
spread_at : (s : ℕ) (xs : List ℕ) (x : ℕ) → 0 < s → get_or (spread s xs) (x * s) 0 ≡ get_or xs x 0
unfolding spread
spread_at s [] x h = refl
spread_at s (y ∷ xs) zero h = ap (λ k. get_or (y ∷ (replicate (s - 1) 0 ++ spread s xs)) k 0) (Nat.zero-mul s)
spread_at s (y ∷ xs) (suc x) h =
    ap (λ k. get_or (y ∷ (replicate (s - 1) 0 ++ spread s xs)) k 0) {x = suc x * s} {y = suc (s - 1 + x * s)} (omega (arith, Nat.suc-mul x s))
    ∙ ap (λ k. get_or (replicate (s - 1) 0 ++ spread s xs) (k + x * s) 0) (sym (length-replicate {A = ℕ} (s - 1) 0))
    ∙ get_or-append-add (replicate (s - 1) 0) (spread s xs) (x * s) 0
    ∙ spread_at s xs x h

canonical_zeros : (k : ℕ) → canonical_words (replicate k 0) ≡ true
unfolding canonical_words
canonical_zeros zero = refl
canonical_zeros (suc k) = canonical_zeros k

canonical_spread : (s : ℕ) (xs : List ℕ) → canonical_words xs ≡ true → canonical_words (spread s xs) ≡ true
unfolding spread canonical_words
canonical_spread s [] e = refl
canonical_spread s (x ∷ xs) e =
    let b = and_both (ltb x p) (canonical_words xs) e in
    ap₂ ◌&&◌ b.0 (canonical_append (replicate (s - 1) 0) (spread s xs) (canonical_zeros (s - 1)) (canonical_spread s xs b.1))

module _ (l n : ℕ) (list cells : List ℕ) where
  upto_below : canonical_words cells ≡ true → (i : ℕ) → canonical_words (stacked_up_to l list cells i) ≡ true
  unfolding stacked_up_to spread_matrix canonical_words
  upto_below e zero = refl
  upto_below e (suc i) =
      canonical_append (stacked_up_to l list cells i) _ (upto_below e i)
      (canonical_spread (stride_of l (log_at list i)) _ (canonical_take (cells_of list i) _ (canonical_drop (cells_before list i) cells e)))

  pub stacked-below : canonical_words cells ≡ true → canonical_words (stacked_matrix l n list cells) ≡ true
  unfolding stacked_matrix
  stacked-below e = canonical_append (stacked_up_to l list cells (count_of list)) _ (upto_below e (count_of list))
      (canonical_zeros (stack_width l n (count_of list) list * height l n - length (stacked_up_to l list cells (count_of list))))

  -- matrix i among the first m
  upto_long : (m i y : ℕ) → i < m → y < length (spread_matrix l list cells i) → length (stacked_up_to l list cells i) + y < length (stacked_up_to l list cells m)
  unfolding stacked_up_to
  upto_long zero i y h k = absurd (omega arith)
  upto_long (suc m) i y h k = last (eq-or-lt_of_le (le_of_suc-le-suc h)) (λ s. upto_long m i y s k)
    where
      long : length (stacked_up_to l list cells m ++ spread_matrix l list cells m) ≡ length (stacked_up_to l list cells m) + length (spread_matrix l list cells m)
      long = length-append (stacked_up_to l list cells m) (spread_matrix l list cells m)

      last : (i ≡ m) ⊎ (i < m) → (i < m → length (stacked_up_to l list cells i) + y < length (stacked_up_to l list cells m))
          → length (stacked_up_to l list cells i) + y < length (stacked_up_to l list cells m ++ spread_matrix l list cells m)
      last (inl e) before = omega (arith, long, ap (λ j. length (stacked_up_to l list cells j)) e, ap (λ j. length (spread_matrix l list cells j)) e)
      last (inr s) before = omega (arith, long, before s)

  upto_at : (m i y : ℕ) → i < m → y < length (spread_matrix l list cells i)
      → get_or (stacked_up_to l list cells m) (length (stacked_up_to l list cells i) + y) 0 ≡ get_or (spread_matrix l list cells i) y 0
  unfolding stacked_up_to
  upto_at zero i y h k = absurd (omega arith)
  upto_at (suc m) i y h k = last (eq-or-lt_of_le (le_of_suc-le-suc h)) (λ s. upto_at m i y s k)
    where
      front : List ℕ
      front = stacked_up_to l list cells m

      last : (i ≡ m) ⊎ (i < m) → (i < m → get_or front (length (stacked_up_to l list cells i) + y) 0 ≡ get_or (spread_matrix l list cells i) y 0)
          → get_or (front ++ spread_matrix l list cells m) (length (stacked_up_to l list cells i) + y) 0 ≡ get_or (spread_matrix l list cells i) y 0
      last (inl e) before =
          ap (λ j. get_or (front ++ spread_matrix l list cells m) (length (stacked_up_to l list cells j) + y) 0) e ∙ get_or-append-add front (spread_matrix l list cells m) y 0
          ∙ ap (λ j. get_or (spread_matrix l list cells j) y 0) (sym e)
      last (inr s) before = get_or-append front (spread_matrix l list cells m) 0 _ (upto_long m i y s k) ∙ before s

  module _ (places : ℕ) (ok : Fillable l n list cells places) where
    -- its length
    upto_fits : (i : ℕ) → i ≤ count_of list → length (stacked_up_to l list cells i) ≤ matrix_start l n (count_of list) list i
    unfolding stacked_up_to
    upto_fits zero h = omega arith
    upto_fits (suc i) h =
        omega (arith, next_size l n list cells places ok i h, stacked_start l n list cells places ok i h, matrix_ends l n (count_of list) list i)

    whole : matrix_start l n (count_of list) list (count_of list) ≡ stack_width l n (count_of list) list * height l n
    whole = width-cells l n list _ refl

    pub stacked-ends : matrix_start l n (count_of list) list (count_of list) ≡ length (stacked_matrix l n list cells)
    unfolding stacked_matrix
    stacked-ends =
        omega (
          arith,
          whole,
          upto_fits (count_of list) (omega arith),
          length-append (stacked_up_to l list cells (count_of list)) (replicate (stack_width l n (count_of list) list * height l n - length (stacked_up_to l list cells (count_of list))) 0),
          length-replicate {A = ℕ} (stack_width l n (count_of list) list * height l n - length (stacked_up_to l list cells (count_of list))) 0,
        )

    pub stacked-cell : (i x : ℕ) → i < count_of list → x < cells_of list i
        → get_or (stacked_matrix l n list cells) (matrix_start l n (count_of list) list i + x * stride_of l (log_at list i)) 0 ≡ get_or cells (cells_before list i + x) 0
    unfolding stacked_matrix spread_matrix cells_before
    stacked-cell i x h k =
        ap (λ s. get_or (stacked_matrix l n list cells) (s + x * stride_of l (log_at list i)) 0) (sym (stacked_start l n list cells places ok i h))
        ∙ get_or-append (stacked_up_to l list cells (count_of list)) _ 0 _ (upto_long (count_of list) i _ h inside)
        ∙ upto_at (count_of list) i _ h inside
        ∙ word
      where
        there : cells_before list i + cells_of list i ≤ length cells
        there = omega (arith, ok.cells_size, cells_mono list (suc i) (count_of list) h)

        taken : length (take (cells_of list i) (drop (cells_before list i) cells)) ≡ cells_of list i
        taken = length-take (cells_of list i) (drop (cells_before list i) cells) ∙ omega (arith, length-drop (cells_before list i) cells, there)

        inside : x * stride_of l (log_at list i) < length (spread_matrix l list cells i)
        inside =
            omega (
              arith,
              length-spread (stride_of l (log_at list i)) (take (cells_of list i) (drop (cells_before list i) cells)) (pow_pos (l - log_at list i)),
              ap (λ c. c * stride_of l (log_at list i)) taken,
              Nat.mul-le-mul_right {m = suc x} {n = cells_of list i} (stride_of l (log_at list i)) k,
              Nat.suc-mul x (stride_of l (log_at list i)),
              pow_pos (l - log_at list i),
            )

        word : get_or (spread_matrix l list cells i) (x * stride_of l (log_at list i)) 0 ≡ get_or cells (cells_before list i + x) 0
        word =
            spread_at (stride_of l (log_at list i)) (take (cells_of list i) (drop (cells_before list i) cells)) x (pow_pos (l - log_at list i))
            ∙ get_or-take (cells_of list i) (drop (cells_before list i) cells) x 0 k
            ∙ get_or-drop (cells_before list i) cells x 0
