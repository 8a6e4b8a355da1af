-- A column's weights by rows, as document 01 says them: where its cell t lies, lambda^(2k) × e(t), plus lambda^(2k+1) × e(t − 1) if flagged; elsewhere 0.
use mathlib.Core.Path.{◌≡◌, refl, sym, ◌∙◌, ap}
use mathlib.Core.Logic.{◌≢◌}
use Prim.Native.Nat.{ℕ, zero, suc, ◌+◌, ◌*◌, ◌-◌, ◌/◌, ◌%◌, ◌^◌, ◌<◌}
use native.Mathlib.Nat
use native.Mathlib.Omega.{arith}
use Rattle.algebra.specs.Ring.{Ring, pow}
use Rattle.algebra.proofs.Powers.{two_pow-pos, two_pow-add}
use Rattle.tables.specs.Index.{before}
use Rattle.tables.specs.AtStride.{on_zero, at_stride}
use Rattle.tables.proofs.StrideFolds.{at_stride_at}
use Rattle.tables.proofs.Windows.{Place, early, inside, late, place, window_in, window_early, window_late}
use Rattle.layout.specs.Placing.{slice_length}
use Rattle.weights.specs.Run.{Run, start_row, gap}
use Rattle.weights.specs.ColumnFactor.{column_factor}
use Rattle.weights.specs.LambdaPowers.{if_flagged, plain_power, rotated_power}
use Rattle.weights.specs.Weights.{cell_weight, weights}
use Rattle.weights.proofs.Blocks.{order_gap, rows_order, slice-blocks}

-- the rows that a column takes are 2^h strides
pub slice_strides : (l h : ℕ) → slice_length l h ≡ 2 ^ (l - h) * 2 ^ h
slice_strides l h =
    slice-blocks l h
    ∙ ap (λ k. k * 2 ^ (h - l)) (ap (λ k. 2 ^ k) (sym (order_gap l h) ∙ Nat.add_comm _ _) ∙ two_pow-add (l - h) _)
    ∙ Nat.mul_assoc _ _ _ ∙ ap (λ k. 2 ^ (l - h) * k) (rows_order l h)

module _ {A : Type 0} (R : Ring A) (half w : A) (run : Run A) (k : ℕ) where
  infixl 60 ◌⊕◌
  infixl 70 ◌⊗◌
  open R use {zero as 𝟘, add as ◌⊕◌, mul as ◌⊗◌}

  -- its log height
  abbrev tall : ℕ
  tall = run.log k

  pub weights_at_cell : (t : ℕ) → t < 2 ^ run.log k
      → weights R half w run k (start_row run k + 2 ^ gap run tall * t)
      ≡ pow R run.lambda (2 * k) ⊗ column_factor R half w run tall t
      ⊕ if_flagged R (run.flag k) (pow R run.lambda (2 * k + 1)) ⊗ column_factor R half w run tall (before (2 ^ run.log k) t)
  unfolding weights cell_weight plain_power rotated_power on_zero
  weights_at_cell t h =
      window_in R (start_row run k) (slice_length run.skip (run.log k)) (at_stride R (2 ^ gap run tall) (cell_weight R half w run k)) (2 ^ gap run tall * t)
      (rw (slice_strides run.skip (run.log k)) (omega (arith, Nat.mul-le-mul_left (2 ^ gap run tall) h, Nat.mul-suc (2 ^ gap run tall) t, two_pow-pos (gap run tall))))
      ∙ ap (at_stride R (2 ^ gap run tall) (cell_weight R half w run k)) (sym (Nat.zero-add _))
      ∙ at_stride_at R (2 ^ gap run tall) (cell_weight R half w run k) 0 t (two_pow-pos (gap run tall))

  pub weights_elsewhere : (i : ℕ) → ((t : ℕ) → t < 2 ^ run.log k → i ≢ start_row run k + 2 ^ gap run tall * t) → weights R half w run k i ≡ 𝟘
  unfolding weights at_stride on_zero
  weights_elsewhere i out = at (place (start_row run k) size i)
    where
      size : ℕ
      size = slice_length run.skip (run.log k)

      stride : ℕ
      stride = 2 ^ gap run tall

      between : (s : ℕ) → s < size → i ≡ start_row run k + s → (m : ℕ) → s % stride ≡ m → on_zero R m (cell_weight R half w run k (s / stride)) ≡ 𝟘
      between s h e (suc m) r = refl
      between s h e zero r =
          absurd (out (s / stride)
          ((Nat.div-lt_iff_lt-mul (two_pow-pos (gap run tall))).1 (rw (Nat.mul_comm (2 ^ run.log k) stride, ← slice_strides run.skip (run.log k)) h))
          (e ∙ ap (λ j. start_row run k + j) (sym (Nat.div-add-mod s stride) ∙ ap (λ j. stride * (s / stride) + j) r ∙ Nat.add-zero _)))

      at : Place (start_row run k) size i → weights R half w run k i ≡ 𝟘
      at (early h) = window_early R (start_row run k) size _ i h
      at (inside s h e) =
          ap (weights R half w run k) e ∙ window_in R (start_row run k) size (at_stride R stride (cell_weight R half w run k)) s h ∙ between s h e (s % stride) refl
      at (late h) = window_late R (start_row run k) size _ i h
