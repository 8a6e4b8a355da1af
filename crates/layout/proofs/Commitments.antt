-- The commitments of a run lie one after the other, each as if it were planned alone and in as many stack columns: the first
-- from cell 0 on, and a later one's matrix from row 0 of the stack column that it opens. Assumes nothing.
use Prim.Native.Nat.{ℕ, zero, suc, ◌+◌, ◌-◌, ◌*◌, ◌/◌, ◌<◌, ◌≤◌}
use mathlib.Core.Path.{◌≡◌, refl, sym, ap, ap₂, ◌∙◌}
use mathlib.Core.List.{List, [], ◌∷◌}
use native.Mathlib.Nat.{add-mul, add-mul-div_right, div-add-mod'}
use native.Mathlib.Omega.{arith}
use lib.ListN.{get_or, take, length-take}
use lib.Seq.{get_or-take}
use lib.Pow.{pow_pos}
use Rattle.layout.specs.Triples.{count_of, width_at, log_at, flag_at}
use Rattle.layout.specs.Placing.{height, slice_length, round_up, opened, matrix_length, matrix_start, column_start, row_of, stack_width}
use Rattle.layout.proofs.Slices.{opened_later}
use Rattle.layout.proofs.Parts.{start_multiple, width-cells}

-- a multiple of h stays before what is rounded up
round_after : (h q s : ℕ) → 0 < h → round_up h (q * h + s) ≡ q * h + round_up h s
unfolding round_up
round_after h q s pos =
    let turned : q * h + s + (h - 1) ≡ s + (h - 1) + q * h = omega arith in
    let parts : (q * h + s + (h - 1)) / h ≡ (s + (h - 1)) / h + q = ap (λ (x : ℕ). x / h) turned ∙ add-mul-div_right (s + (h - 1)) q {z = h} pos in
    omega (arith, ap (λ (x : ℕ). x * h) parts, add-mul ((s + (h - 1)) / h) q h)

module _ (l n first : ℕ) (list : List ℕ) where
  -- the matrices of the first commitment, and the one of a later commitment
  abbrev first_alone : List ℕ
  first_alone = take (3 * first) list

  abbrev later_alone : ℕ → List ℕ
  later_alone i = width_at list i ∷ log_at list i ∷ flag_at list i ∷ []

  module _ (there : first ≤ count_of list) where
    first_count_lem : count_of first_alone ≡ first
    first_count_lem = omega (arith, length-take (3 * first) list)

    starts_alone : (i : ℕ) → i ≤ first → matrix_start l n first list i ≡ matrix_start l n (count_of first_alone) first_alone i
    unfolding matrix_start matrix_length
    starts_alone zero h = refl
    starts_alone (suc i) h =
        ap (λ (k : ℕ). opened l n k (suc i) (matrix_start l n first list i + width_at list i * slice_length l (log_at list i))) (sym first_count_lem)
        ∙ ap (opened l n (count_of first_alone) (suc i))
        (omega (arith, starts_alone i (omega arith), ap₂ (λ (w k : ℕ). w * slice_length l k) (word (3 * i) (omega arith)) (word (3 * i + 1) (omega arith))))
      where
        word : (k : ℕ) → k < 3 * first → get_or list k 0 ≡ get_or first_alone k 0
        word k s = sym (get_or-take (3 * first) list k 0 s)

    pub first_placed : (i j : ℕ) → i < first → column_start l n first list i j ≡ column_start l n (count_of first_alone) first_alone i j
    first_placed i j h =
        ap₂ (λ (s k : ℕ). s + j * slice_length l k) (starts_alone i (omega arith)) (sym (get_or-take (3 * first) list (3 * i + 1) 0 (omega arith)))

    -- where the next commitment starts
    pub first_width : matrix_start l n first list first ≡ stack_width l n (count_of first_alone) first_alone * height l n
    first_width = width-cells l n first_alone _ (starts_alone first (omega arith) ∙ ap (matrix_start l n (count_of first_alone) first_alone) (sym first_count_lem))

  module _ (i : ℕ) (later : first ≤ i) where
    pub later_opens : row_of l n (matrix_start l n first list i) ≡ 0
    later_opens = start_multiple l n first list i later

    pub later_placed : (j : ℕ) → column_start l n first list i j ≡ matrix_start l n first list i + column_start l n 1 (later_alone i) 0 j
    unfolding matrix_start
    later_placed j = omega arith

    pub later_width : matrix_start l n first list (suc i) ≡ matrix_start l n first list i + stack_width l n 1 (later_alone i) * height l n
    unfolding matrix_start matrix_length
    later_width =
        opened_later l n first (suc i) _ (omega arith)
        ∙ ap (λ (x : ℕ). round_up (height l n) (x + matrix_length l list i)) whole
        ∙ round_after (height l n) (matrix_start l n first list i / height l n) (matrix_length l list i) (pow_pos (l + n))
        ∙ omega (arith, whole, alone)
      where
        whole : matrix_start l n first list i ≡ matrix_start l n first list i / height l n * height l n
        whole = omega (arith, div-add-mod' (matrix_start l n first list i) (height l n), later_opens)

        alone : round_up (height l n) (matrix_length l list i) ≡ stack_width l n 1 (later_alone i) * height l n
        alone = width-cells l n (later_alone i) _ (sym (opened_later l n 1 1 _ (omega arith) ∙ ap (round_up (height l n)) (omega arith)))
