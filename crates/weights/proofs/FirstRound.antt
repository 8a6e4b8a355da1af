-- The round before u_0: the weighted sum folded at the powers of the generator adds up to the weighted sum of the true claims, so to the weighted claims
-- if these are the columns' values at r and at r with the rows turned by one. So an honest first polynomial passes number 13.
use mathlib.Core.Path.{◌≡◌, refl, sym, ◌∙◌, ap, ap₂, subst₂}
use mathlib.Core.List.{[], ◌∷◌}
use Prim.Native.Nat.{ℕ, zero, suc, ◌+◌, ◌*◌, ◌-◌, ◌/◌, ◌^◌, ◌<◌, ◌≤◌}
use native.Mathlib.Nat
use native.Mathlib.Omega.{arith}
use Rattle.algebra.specs.Ring.{Ring, pow}
use Rattle.algebra.specs.Sum.{sum}
use Rattle.algebra.proofs.RingLaws as Laws
use Rattle.algebra.proofs.Expression.{◌:+◌, ◌:*◌, ◌:=◌}
use Rattle.algebra.proofs.Solver.{solve}
use Rattle.algebra.proofs.Sums.{sum_cong, sum_cong_below, sum-add, sum-mul, sum_swap, sum_grid, sum_delta}
use Rattle.algebra.proofs.Powers.{two_pow-pos, two_pow-add}
use Rattle.tables.specs.Index.{before}
use Rattle.tables.specs.Root.{Skip}
use Rattle.tables.specs.FoldPle.{fold_ple}
use Rattle.tables.specs.FoldMany.{fold_many}
use Rattle.tables.specs.AtStride.{on_zero, at_stride}
use Rattle.tables.proofs.PrismFolds.{fold_ple_at_power}
use Rattle.tables.proofs.StrideFolds.{at_stride_at}
use Rattle.tables.proofs.Windows.{sum-window}
use Rattle.layout.specs.Placing.{height, slice_length, row_of}
use Rattle.weights.specs.Run.{Run, stack_of, start_row, gap}
use Rattle.weights.specs.ColumnFactor.{column_factor}
use Rattle.weights.specs.LambdaPowers.{if_flagged, plain_power, rotated_power, claims_before, weighted_claims}
use Rattle.weights.specs.Weights.{cell_weight, weights}
use Rattle.weights.specs.StackColumns.{stack_rows, folded_column}
use Rattle.weights.specs.ColumnValue.{cell, column_value, column_rotated, weighted_truth}
use Rattle.weights.specs.FoldedSum.{folded_sum}
use Rattle.weights.specs.Fits.{Fits, Planned}
use Rattle.weights.proofs.Blocks.{slice-blocks, row_block}
use Rattle.weights.proofs.WeightsAtCells.{slice_strides}
use Rattle.weights.proofs.WindowSums.{window-inside}
use Rattle.weights.proofs.RoundSums.{pair_sum}
use Rattle.weights.proofs.HonestQuadratics.{folded_sum-tables}

-- the column ends inside its stack column
pub slice_inside : {l n h s : ℕ} → Fits l n h s → row_of l n s + slice_length l h ≤ height l n
slice_inside {l} {n} {h} {s} f = subst₂ ◌≤◌ (sym total) (sym (two_pow-add l n)) (Nat.mul-le-mul_left (2 ^ l) blocks)
  where
    blocks : row_of l n s / 2 ^ l + 2 ^ (h - l) ≤ 2 ^ n
    blocks = rw (Nat.div-one, Nat.sub-zero (h - l), Nat.sub-zero n) at (window-inside f 0 (omega arith))

    total : row_of l n s + slice_length l h ≡ 2 ^ l * (row_of l n s / 2 ^ l + 2 ^ (h - l))
    total = ap₂ ◌+◌ (row_block f) (slice-blocks l h) ∙ sym (Nat.mul-add (2 ^ l) _ _)

module _ {A : Type 0} (R : Ring A) where
  infixl 70 ◌⊗◌
  open R use {zero as 𝟘, mul as ◌⊗◌}

  -- a factor that is there for flagged columns only
  flagged-mul : (f : ℕ) (c a b : A) → (0 < f → a ≡ b) → if_flagged R f c ⊗ a ≡ if_flagged R f c ⊗ b
  unfolding if_flagged
  flagged-mul zero c a b e = Laws.zero-mul R a ∙ sym (Laws.zero-mul R b)
  flagged-mul (suc f) c a b e = ap (λ x. c ⊗ x) (e (omega arith))

  -- a sum against a table laid at a stride
  sum-at_stride : (s n : ℕ) (f g : ℕ → A) → 0 < s → sum R (s * n) (λ i. at_stride R s f i ⊗ g i) ≡ sum R n (λ t. f t ⊗ g (s * t))
  unfolding on_zero
  sum-at_stride s n f g pos =
      sum_grid R s n (λ i. at_stride R s f i ⊗ g i)
      ∙ sum_cong R n (λ t.
      sum_cong_below R s (λ i h. ap (λ a. a ⊗ g (i + s * t)) (at_stride_at R s f i t h))
      ∙ sum_delta R s (λ i. on_zero R i (f t) ⊗ g (i + s * t)) 0 pos (other t)
      ∙ ap (λ i. f t ⊗ g i) (Nat.zero-add (s * t)))
    where
      other : (t i : ℕ) → i < s → ¬ (i ≡ 0) → on_zero R i (f t) ⊗ g (i + s * t) ≡ 𝟘
      other t zero h ne = absurd (ne refl)
      other t (suc i) h ne = Laws.zero-mul R _

module _ {A : Type 0} (R : Ring A) (half w : A) (run : Run A) (cells : ℕ → A) where
  -- where the claims are the columns' values
  pub truth_claimed : (claims : ℕ → A) → ((k : ℕ) → k < run.count → claims (claims_before run k) ≡ column_value R half w run cells k)
      → ((k : ℕ) → k < run.count → 0 < run.flag k → claims (claims_before run k + 1) ≡ column_rotated R half w run cells k)
      → weighted_truth R half w run cells ≡ weighted_claims R run claims
  unfolding weighted_truth weighted_claims rotated_power
  truth_claimed claims plain rotated =
      sym (sum_cong_below R run.count (λ k s.
      ap₂ R.add (ap (λ c. R.mul (plain_power R run k) c) (plain k s)) (flagged-mul R (run.flag k) _ _ _ (rotated k s))))

module _ {A : Type 0} {R : Ring A} {half w : A} (run : Run A) (skip : Skip R half run.skip w) (planned : Planned run) (cells : ℕ → A) where
  infixl 60 ◌⊕◌
  infixl 70 ◌⊗◌
  open R use {add as ◌⊕◌, mul as ◌⊗◌}

  -- a column's weights against its stack column
  weights-sum : (k : ℕ) → k < run.count
      → sum R (2 ^ run.skip * 2 ^ run.stack) (λ i. weights R half w run k i ⊗ stack_rows run cells (stack_of run k) i)
      ≡ plain_power R run k ⊗ column_value R half w run cells k ⊕ rotated_power R run k ⊗ column_rotated R half w run cells k
  unfolding weights cell_weight cell column_value column_rotated
  weights-sum k s =
      ap (λ n. sum R n (λ i. weights R half w run k i ⊗ v i)) (sym (two_pow-add run.skip run.stack))
      ∙ sum-window R (height run.skip run.stack) (start_row run k) (slice_length run.skip (run.log k)) (at_stride R stride (cell_weight R half w run k)) v
      (slice_inside (planned.fits k s))
      ∙ ap (λ n. sum R n (λ j. at_stride R stride (cell_weight R half w run k) j ⊗ v (start_row run k + j))) (slice_strides run.skip (run.log k))
      ∙ sum-at_stride R stride (2 ^ run.log k) (cell_weight R half w run k) (λ j. v (start_row run k + j)) (two_pow-pos (gap run (run.log k)))
      ∙ sum_cong R (2 ^ run.log k) (λ t.
      solve R (plain_power R run k ∷ rotated_power R run k ∷ e t ∷ e (before (2 ^ run.log k) t) ∷ v (start_row run k + stride * t) ∷ [])
      (λ a b x y c. (a :* x :+ b :* y) :* c := a :* (c :* x) :+ b :* (c :* y)) refl)
      ∙ sum-add R (2 ^ run.log k) (λ t. plain_power R run k ⊗ (v (start_row run k + stride * t) ⊗ e t))
      (λ t. rotated_power R run k ⊗ (v (start_row run k + stride * t) ⊗ e (before (2 ^ run.log k) t)))
      ∙ ap₂ ◌⊕◌ (sum-mul R (2 ^ run.log k) (plain_power R run k) (λ t. v (start_row run k + stride * t) ⊗ e t))
      (sum-mul R (2 ^ run.log k) (rotated_power R run k) (λ t. v (start_row run k + stride * t) ⊗ e (before (2 ^ run.log k) t)))
    where
      v : ℕ → A
      v = stack_rows run cells (stack_of run k)

      stride : ℕ
      stride = 2 ^ gap run (run.log k)

      e : ℕ → A
      e = column_factor R half w run (run.log k)

  -- the sum over the powers is one over all rows
  sum-over_powers : sum R (2 ^ run.skip) (λ i. folded_sum R half w run cells (pow R w i) [])
      ≡ sum R run.count (λ k.
      sum R (2 ^ run.skip * 2 ^ run.stack) (λ t. weights R half w run k t ⊗ stack_rows run cells (stack_of run k) t))
  unfolding pair_sum folded_column fold_many
  sum-over_powers =
      sum_cong_below R (2 ^ run.skip) (λ i h.
      folded_sum-tables R half w run cells (pow R w i) []
      ∙ sum_cong R run.count (λ k.
      ap (λ n. sum R (2 ^ n) (λ y. folded k i y ⊗ folded_column R half w run cells (pow R w i) [] (stack_of run k) y)) (Nat.sub-zero run.stack)
      ∙ sum_cong R (2 ^ run.stack) (λ y.
      ap₂ ◌⊗◌ (fold_ple_at_power skip (weights R half w run k) i y h) (fold_ple_at_power skip (stack_rows run cells (stack_of run k)) i y h))))
      ∙ sum_swap R (2 ^ run.skip) run.count (λ i k. sum R (2 ^ run.stack) (λ y. term k (i + 2 ^ run.skip * y)))
      ∙ sum_cong R run.count (λ k.
      sum_swap R (2 ^ run.skip) (2 ^ run.stack) (λ i y. term k (i + 2 ^ run.skip * y)) ∙ sym (sum_grid R (2 ^ run.skip) (2 ^ run.stack) (term k)))
    where
      folded : ℕ → ℕ → ℕ → A
      folded k i = fold_ple R half run.skip w (weights R half w run k) (pow R w i)

      term : ℕ → ℕ → A
      term k t = weights R half w run k t ⊗ stack_rows run cells (stack_of run k) t

  -- it is the weighted sum of the true claims
  pub first_truth : sum R (2 ^ run.skip) (λ i. folded_sum R half w run cells (pow R w i) []) ≡ weighted_truth R half w run cells
  unfolding weighted_truth
  first_truth = sum-over_powers ∙ sum_cong_below R run.count weights-sum

  pub first_round : (claims : ℕ → A) → ((k : ℕ) → k < run.count → claims (claims_before run k) ≡ column_value R half w run cells k)
      → ((k : ℕ) → k < run.count → 0 < run.flag k → claims (claims_before run k + 1) ≡ column_rotated R half w run cells k)
      → sum R (2 ^ run.skip) (λ i. folded_sum R half w run cells (pow R w i) []) ≡ weighted_claims R run claims
  first_round claims plain rotated = first_truth ∙ truth_claimed R half w run cells claims plain rotated
