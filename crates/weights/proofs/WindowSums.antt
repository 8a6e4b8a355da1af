-- The weighted sum on the windows alone: over columns, column weight × Σ over the window of folded table × folded stack
-- column. Document 01: lambda power × column weight × table weight × folded value, each column read from its own starting row.
use mathlib.Core.Path.{◌≡◌, sym, ◌∙◌, ap}
use mathlib.Core.List.{List}
use Prim.Native.Nat.{ℕ, ◌+◌, ◌*◌, ◌-◌, ◌/◌, ◌^◌, ◌≤◌}
use native.Mathlib.Nat
use native.Mathlib.Omega.{arith}
use lib.ListN.{length, take}
use Rattle.algebra.specs.Ring.{Ring}
use Rattle.algebra.specs.Sum.{sum}
use Rattle.algebra.proofs.Sums.{sum_cong, sum_cong_below, sum-mul}
use Rattle.algebra.proofs.Powers.{two_pow-pos, two_pow-add}
use Rattle.tables.specs.Root.{Skip}
use Rattle.tables.specs.FoldMany.{fold_many}
use Rattle.tables.proofs.Windows.{sum-window}
use Rattle.layout.specs.Placing.{row_of}
use Rattle.weights.specs.Run.{Run, stack_of, start_block, lift}
use Rattle.weights.specs.LambdaPowers.{plain_power, rotated_power}
use Rattle.weights.specs.HeightTables.{eq_entry, rot_entry, table_weight}
use Rattle.weights.specs.ColumnWeight.{column_weight}
use Rattle.weights.specs.StackColumns.{folded_column}
use Rattle.weights.specs.FoldedSum.{folded_sum}
use Rattle.weights.specs.Fits.{Fits, Planned}
use Rattle.weights.proofs.Blocks.{lift_fits, block-spot, spot-small}
use Rattle.weights.proofs.WindowsFolded.{window_start}
use Rattle.weights.proofs.WeightsFoldedOn.{table_weight-folded, weights-folded_on}
use Rattle.weights.proofs.RoundSums.{pair_sum}
use Rattle.weights.proofs.HonestQuadratics.{folded_sum-tables}

-- after j folds the window lies in the 2^(n − j) entries that are left
pub window-inside : {l n h s : ℕ} → Fits l n h s → (j : ℕ) → j ≤ n → row_of l n s / 2 ^ l / 2 ^ j + 2 ^ (h - l - j) ≤ 2 ^ (n - j)
window-inside {l} {n} {h} {s} f j small =
    rw (place, ← size, ← Nat.mul-suc (2 ^ (m - j)) (b / 2 ^ (j - m)))
    (Nat.mul-le-mul_left (2 ^ (m - j)) ((Nat.div-lt_iff_lt-mul (two_pow-pos (j - m))).1 (rw (← below) (spot-small f))))
  where
    m : ℕ
    m = h - l

    b : ℕ
    b = row_of l n s / 2 ^ l / 2 ^ m

    place : row_of l n s / 2 ^ l / 2 ^ j ≡ 2 ^ (m - j) * (b / 2 ^ (j - m))
    place = ap (λ k. k / 2 ^ j) (block-spot f) ∙ sym (window_start m b j)

    size : 2 ^ (m - j) * 2 ^ (n - m - (j - m)) ≡ 2 ^ (n - j)
    size =
        sym (two_pow-add (m - j) (n - m - (j - m)))
        ∙ ap (λ k. 2 ^ k) {x = m - j + (n - m - (j - m))} {y = n - j} (omega (arith, lift_fits f))

    below : 2 ^ (n - m) ≡ 2 ^ (n - m - (j - m)) * 2 ^ (j - m)
    below = ap (λ k. 2 ^ k) {x = n - m} {y = n - m - (j - m) + (j - m)} (omega (arith, lift_fits f)) ∙ two_pow-add (n - m - (j - m)) (j - m)

module _ {A : Type 0} (R : Ring A) (half w : A) (run : Run A) (cells : ℕ → A) (u : A) where
  infixl 60 ◌⊕◌
  infixl 70 ◌⊗◌
  open R use {add as ◌⊕◌, mul as ◌⊗◌}

  -- column k's part of the sum folded at u and us, on its window
  unfoldable pub window_term : List A → ℕ → A
  window_term us k =
      column_weight R run k us
      ⊗ sum R (2 ^ (lift run (run.log k) - length us)) (λ x.
      fold_many R (table_weight R half w run k u) (take (lift run (run.log k)) us) x
      ⊗ folded_column R half w run cells u us (stack_of run k) (start_block run k / 2 ^ length us + x))

  -- with both tables for themselves: lambda power × column weight × table entry × folded value
  pub window_term-tables : (us : List A) (k : ℕ) → window_term us k
      ≡ column_weight R run k us
      ⊗ sum R (2 ^ (lift run (run.log k) - length us)) (λ x.
      (plain_power R run k ⊗ fold_many R (eq_entry R half w run (run.log k) u) (take (lift run (run.log k)) us) x
      ⊕ rotated_power R run k ⊗ fold_many R (rot_entry R half w run (run.log k) u) (take (lift run (run.log k)) us) x)
      ⊗ folded_column R half w run cells u us (stack_of run k) (start_block run k / 2 ^ length us + x))
  unfolding window_term
  window_term-tables us k =
      ap (λ t. column_weight R run k us
      ⊗ sum R (2 ^ (lift run (run.log k) - length us)) (λ x.
      t x ⊗ folded_column R half w run cells u us (stack_of run k) (start_block run k / 2 ^ length us + x)))
      (table_weight-folded R half w run k u (take (lift run (run.log k)) us))

module _ {A : Type 0} {R : Ring A} {half w : A} (run : Run A) (skip : Skip R half run.skip w) (planned : Planned run) (cells : ℕ → A) (u : A) where
  infixl 70 ◌⊗◌
  open R use {mul as ◌⊗◌, mul_assoc}

  pub folded_sum_windows : (us : List A) → length us ≤ run.stack
      → folded_sum R half w run cells u us ≡ sum R run.count (window_term R half w run cells u us)
  unfolding pair_sum window_term
  folded_sum_windows us h =
      folded_sum-tables R half w run cells u us
      ∙ sum_cong_below R run.count (λ k s.
      ap (λ t. sum R (2 ^ (run.stack - length us)) (λ y. t y ⊗ column k y)) (weights-folded_on run skip k (planned.fits k s) u us)
      ∙ sum-window R (2 ^ (run.stack - length us)) (start_block run k / 2 ^ length us) (2 ^ (lift run (run.log k) - length us))
      (λ x. column_weight R run k us ⊗ table k x) (column k) (window-inside (planned.fits k s) (length us) h)
      ∙ sum_cong R (2 ^ (lift run (run.log k) - length us)) (λ x. mul_assoc (column_weight R run k us) (table k x) _)
      ∙ sum-mul R (2 ^ (lift run (run.log k) - length us)) (column_weight R run k us) (λ x. table k x ⊗ column k (start_block run k / 2 ^ length us + x)))
    where
      table : ℕ → ℕ → A
      table k = fold_many R (table_weight R half w run k u) (take (lift run (run.log k)) us)

      column : ℕ → ℕ → A
      column k = folded_column R half w run cells u us (stack_of run k)
