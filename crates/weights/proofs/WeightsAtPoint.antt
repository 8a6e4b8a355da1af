-- A column's weights with every variable put: eq kernel of the row bits × indicator × (lambda^(2k) × eq_prism + lambda^(2k+1) × rotation kernel).
-- What the verdict multiplies an opening by.
use mathlib.Core.Path.{◌≡◌, refl, sym, ◌∙◌, ap, subst}
use mathlib.Core.List.{List, [], ◌∷◌, ◌++◌}
use Prim.Native.Nat.{ℕ, ◌+◌, ◌*◌, ◌-◌, ◌/◌, ◌^◌}
use native.Mathlib.Omega.{arith}
use lib.ListN.{length, take, drop, take-append-drop, length-drop}
use lib.Seq.{length-take-le}
use Rattle.algebra.specs.Ring.{Ring}
use Rattle.algebra.specs.Multilinear.{bits}
use Rattle.algebra.proofs.Expression.{◌:*◌, ◌:=◌}
use Rattle.algebra.proofs.Solver.{solve}
use Rattle.tables.specs.Index.{before}
use Rattle.tables.specs.Root.{Skip}
use Rattle.tables.specs.EqMle.{eq_mle}
use Rattle.tables.specs.Prism.{prism}
use Rattle.tables.specs.PrismKernels.{eq_prism, rot_prism}
use Rattle.tables.specs.AtStride.{at_stride}
use Rattle.tables.specs.Window.{window}
use Rattle.layout.specs.Placing.{slice_length}
use Rattle.weights.specs.Run.{Run, start_row, start_block, lift, gap, order}
use Rattle.weights.specs.ColumnFactor.{raised, lifted_point, column_factor}
use Rattle.weights.specs.LambdaPowers.{plain_power, rotated_power}
use Rattle.weights.specs.Weights.{cell_weight, weights}
use Rattle.weights.specs.HeightTables.{indicator}
use Rattle.weights.specs.Fits.{Fits}
use Rattle.weights.proofs.Blocks.{order_gap, rows_order, slice-blocks, row-spot, spot-small, lift_fits}
use Rattle.weights.proofs.ColumnValues.{cube_factor-bits, prism-column}

module _ {A : Type 0} (R : Ring A) (half w : A) (run : Run A) (k : ℕ) where
  infixl 60 ◌⊕◌
  infixl 70 ◌⊗◌
  open R use {add as ◌⊕◌, mul as ◌⊗◌}

  -- its log height
  abbrev height : ℕ
  height = run.log k

  -- the weight of column k's opening, by the kernels over a generator v of the column's own powers
  unfoldable pub kernel_weight : A → A → List A → A
  kernel_weight v u us =
      eq_mle R (drop (lift run height) us) (bits R (run.stack - lift run height) (start_block run k / 2 ^ lift run height))
      ⊗ (plain_power R run k ⊗ eq_prism R half (order run height) v u (take (lift run height) us) (raised R run height run.r0) (lifted_point run height)
      ⊕ rotated_power R run k ⊗ rot_prism R half (order run height) v u (take (lift run height) us) (raised R run height run.r0) (lifted_point run height))
      ⊗ indicator R half w run height u

module _ {A : Type 0} {R : Ring A} {half w : A} (run : Run A) (skip : Skip R half run.skip w) (k : ℕ)
    (fits : Fits run.skip run.stack (run.log k) (run.start k)) where
  infixl 60 ◌⊕◌
  infixl 70 ◌⊗◌
  open R use {add as ◌⊕◌, mul as ◌⊗◌}

  -- its log height
  abbrev tall : ℕ
  tall = run.log k

  -- where the column stands among windows of its own length
  abbrev spot : ℕ
  spot = start_block run k / 2 ^ lift run tall

  pub weights_at_point : (u : A) (us : List A) → length us ≡ run.stack
      → prism R half run.skip w (weights R half w run k) u us
      ≡ kernel_weight R half w run k (raised R run (run.log k) w) u us
  unfolding kernel_weight weights cell_weight column_factor indicator raised
  weights_at_point u us e =
      (λ i. prism R half (parts i) w (window R (start i) (size i) (at_stride R (2 ^ gap run tall) (rows (count i)))) u (points i))
      ∙ prism-column (order run tall) (gap run tall) (subst (λ l. Skip R half l w) parts skip) u xs zs (raised R run tall run.r0) (lifted_point run tall)
      (plain_power R run k) (rotated_power R run k) spot (rw len_zs (spot-small fits))
      ∙ ap (λ c. indicator R half w run tall u ⊗ kernels ⊗ c) (cube_factor-bits R zs (run.stack - lift run tall) spot len_zs (spot-small fits))
      ∙ solve R (indicator R half w run tall u ∷ kernels ∷ eq_mle R zs (bits R (run.stack - lift run tall) spot) ∷ []) (λ i s c. i :* s :* c := c :* s :* i) refl
    where
      xs : List A
      xs = take (lift run tall) us

      zs : List A
      zs = drop (lift run tall) us

      kernels : A
      kernels =
          plain_power R run k ⊗ eq_prism R half (order run tall) (raised R run tall w) u xs (raised R run tall run.r0) (lifted_point run tall)
          ⊕ rotated_power R run k ⊗ rot_prism R half (order run tall) (raised R run tall w) u xs (raised R run tall run.r0) (lifted_point run tall)

      rows : ℕ → ℕ → A
      rows n t =
          plain_power R run k ⊗ column_factor R half w run tall t ⊕ rotated_power R run k ⊗ column_factor R half w run tall (before n t)

      len_xs : lift run tall ≡ length xs
      len_xs = sym (length-take-le (lift run tall) us (omega (arith, lift_fits fits)))

      len_zs : length zs ≡ run.stack - lift run tall
      len_zs = length-drop (lift run tall) us ∙ ap (λ n. n - lift run tall) e

      points : us ≡ xs ++ zs
      points = sym (take-append-drop (lift run tall) us)

      parts : run.skip ≡ order run tall + gap run tall
      parts = sym (order_gap run.skip (run.log k))

      start : start_row run k ≡ 2 ^ (order run tall + gap run tall) * (2 ^ length xs * spot)
      start = row-spot fits ∙ (λ i. 2 ^ parts i * (2 ^ len_xs i * spot))

      size : slice_length run.skip (run.log k) ≡ 2 ^ (order run tall + gap run tall) * 2 ^ length xs
      size = slice-blocks run.skip (run.log k) ∙ (λ i. 2 ^ parts i * 2 ^ len_xs i)

      count : 2 ^ run.log k ≡ 2 ^ order run tall * 2 ^ length xs
      count = sym (rows_order run.skip (run.log k)) ∙ ap (λ m. 2 ^ order run tall * 2 ^ m) len_xs
