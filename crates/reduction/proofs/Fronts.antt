-- What a list of matrices says of its first m matrices stays when other words follow, and what follows is read behind them.
use mathlib.Core.Path.{◌≡◌, refl, sym, ◌∙◌, ap, ap₂}
use mathlib.Core.List.{List, ◌++◌}
use Prim.Native.Nat.{ℕ, zero, suc, ◌+◌, ◌*◌, ◌^◌, ◌<◌, ◌≤◌}
use native.Mathlib.Omega.{arith}
use lib.ListN.{length, get_or, get_or-append}
use lib.Seq.{get_or-append-add}
use Rattle.layout.specs.Triples.{width_at, log_at, flag_at, columns_before}
use Rattle.layout.specs.Placing.{slice_length, opened, matrix_length, matrix_start}
use Rattle.layout.specs.Stacked.{cells_of, cells_before}

module _ (front back : List ℕ) (m : ℕ) (size : length front ≡ 3 * m) where
  word : (k : ℕ) → k < 3 * m → get_or (front ++ back) k 0 ≡ get_or front k 0
  word k h = get_or-append front back 0 k (omega arith)

  pub front_width : (i : ℕ) → i < m → width_at (front ++ back) i ≡ width_at front i
  front_width i h = word (3 * i) (omega arith)

  pub front_log : (i : ℕ) → i < m → log_at (front ++ back) i ≡ log_at front i
  front_log i h = word (3 * i + 1) (omega arith)

  pub front_flag : (i : ℕ) → i < m → flag_at (front ++ back) i ≡ flag_at front i
  front_flag i h = word (3 * i + 2) (omega arith)

  pub front_columns : (i : ℕ) → i ≤ m → columns_before (front ++ back) i ≡ columns_before front i
  unfolding columns_before
  front_columns zero h = refl
  front_columns (suc i) h = ap₂ ◌+◌ (front_columns i (omega arith)) (front_width i h)

  pub front_cells_of : (i : ℕ) → i < m → cells_of (front ++ back) i ≡ cells_of front i
  unfolding cells_of
  front_cells_of i h = ap₂ (λ w k. w * 2 ^ k) (front_width i h) (front_log i h)

  pub front_cells : (i : ℕ) → i ≤ m → cells_before (front ++ back) i ≡ cells_before front i
  unfolding cells_before
  front_cells zero h = refl
  front_cells (suc i) h = ap₂ ◌+◌ (front_cells i (omega arith)) (front_cells_of i h)

  pub front_start : (l n first : ℕ) (i : ℕ) → i ≤ m → matrix_start l n first (front ++ back) i ≡ matrix_start l n first front i
  unfolding matrix_start matrix_length
  front_start l n first zero h = refl
  front_start l n first (suc i) h =
      ap (opened l n first (suc i)) (ap₂ ◌+◌ (front_start l n first i (omega arith)) (ap₂ (λ w k. w * slice_length l k) (front_width i h) (front_log i h)))

  -- matrix m is the first of what follows
  behind : (k : ℕ) → get_or (front ++ back) (3 * m + k) 0 ≡ get_or back k 0
  behind k = ap (λ s. get_or (front ++ back) (s + k) 0) (sym size) ∙ get_or-append-add front back k 0

  pub back_width : width_at (front ++ back) m ≡ width_at back 0
  back_width = ap (λ k. get_or (front ++ back) k 0) {x = 3 * m} {y = 3 * m + 0} (omega arith) ∙ behind 0

  pub back_log : log_at (front ++ back) m ≡ log_at back 0
  back_log = behind 1

  pub back_flag : flag_at (front ++ back) m ≡ flag_at back 0
  back_flag = behind 2

  pub back_cells_of : cells_of (front ++ back) m ≡ cells_of back 0
  unfolding cells_of
  back_cells_of = ap₂ (λ w k. w * 2 ^ k) back_width back_log
