-- A column's weights folded at u_0: zero outside its window of 2^n_lift blocks, inside it lambda^(2k) × eq table + lambda^(2k+1) × rotation table.
use mathlib.Core.Path.{◌≡◌, sym, ◌∙◌, ap, ap₂, fun_ext, subst}
use mathlib.Core.Logic.{◌⊎◌, inl, inr}
use Prim.Native.Nat.{ℕ, ◌+◌, ◌*◌, ◌^◌, ◌<◌}
use native.Mathlib.Nat
use native.Mathlib.Omega.{arith}
use lib.ListN.{take}
use Rattle.algebra.specs.Ring.{Ring, pow, sub}
use Rattle.algebra.specs.Multilinear.{cube_factor}
use Rattle.algebra.proofs.RingLaws as Laws
use Rattle.algebra.proofs.Multilinears.{cube_factor_nil}
use Rattle.tables.specs.Index.{before}
use Rattle.tables.specs.Root.{Skip}
use Rattle.tables.specs.EqUni.{eq_uni}
use Rattle.tables.specs.FoldPle.{fold_ple}
use Rattle.tables.specs.AtStride.{at_stride}
use Rattle.tables.specs.Window.{window}
use Rattle.weights.specs.Run.{Run, start_block, lift, gap, order}
use Rattle.weights.specs.ColumnFactor.{raised, lifted_point, column_factor}
use Rattle.weights.specs.LambdaPowers.{plain_power, rotated_power}
use Rattle.weights.specs.Weights.{cell_weight, weights}
use Rattle.weights.specs.HeightTables.{plain_entry, indicator, eq_entry, rot_entry, table_weight}
use Rattle.weights.specs.Fits.{Fits}
use Rattle.weights.proofs.Blocks.{order_gap, rows_order, slice-blocks, row_block}
use Rattle.weights.proofs.ColumnFolds.{fold_ple-column}

module _ {A : Type 0} (R : Ring A) (run : Run A) (h : ℕ) where
  open R use {one as 𝟙, mul_one}

  -- a column that is not short
  pub raised_long : gap run h ≡ 0 → (x : A) → raised R run h x ≡ x
  unfolding raised pow
  raised_long e x = ap (λ g. pow R x (2 ^ g)) e ∙ mul_one x

  -- a short one has one entry
  entry-short : 0 < gap run h → (x : ℕ) → plain_entry R run h x ≡ 𝟙
  unfolding plain_entry lifted_point
  entry-short p x = ap (λ m. cube_factor R (take m run.rs) x) {x = lift run h} {y = 0} (omega arith) ∙ cube_factor_nil R x

module _ {A : Type 0} {R : Ring A} {half w : A} (run : Run A) (skip : Skip R half run.skip w) (k : ℕ) where
  infixl 60 ◌⊕◌
  infixl 70 ◌⊗◌
  open R use {one as 𝟙, add as ◌⊕◌, mul as ◌⊗◌}

  -- its log height
  abbrev tall : ℕ
  tall = run.log k

  -- the difference of neighbours in the eq table
  abbrev step : ℕ → A
  step x = sub R (plain_entry R run tall (before (2 ^ lift run tall) x)) (plain_entry R run tall x)

  -- the kernels at 1 are those of l_skip: they enter only where the column is not short
  ends : (u : A) (x : ℕ)
      → eq_uni R half (order run tall) (raised R run tall w) u 𝟙
      ⊗ eq_uni R half (order run tall) (raised R run tall w) (raised R run tall w ⊗ raised R run tall run.r0) 𝟙 ⊗ step x
      ≡ eq_uni R half run.skip w u 𝟙 ⊗ eq_uni R half run.skip w (w ⊗ run.r0) 𝟙 ⊗ step x
  ends u x = side (Nat.eq-zero-or-pos (gap run tall))
    where
      gone : (c : A) → step x ≡ R.zero → c ⊗ step x ≡ R.zero
      gone c e = ap (λ s. c ⊗ s) e ∙ Laws.mul-zero R c

      side : (gap run tall ≡ 0) ⊎ (0 < gap run tall)
          → eq_uni R half (order run tall) (raised R run tall w) u 𝟙
          ⊗ eq_uni R half (order run tall) (raised R run tall w) (raised R run tall w ⊗ raised R run tall run.r0) 𝟙 ⊗ step x
          ≡ eq_uni R half run.skip w u 𝟙 ⊗ eq_uni R half run.skip w (w ⊗ run.r0) 𝟙 ⊗ step x
      side (inl e) =
          let o : order run tall ≡ run.skip = omega (arith, order_gap run.skip (run.log k)) in
          let p : raised R run tall w ≡ w = raised_long R run tall e w in
          let q : raised R run tall run.r0 ≡ run.r0 = raised_long R run tall e run.r0 in
          λ i. eq_uni R half (o i) (p i) u 𝟙 ⊗ eq_uni R half (o i) (p i) (p i ⊗ q i) 𝟙 ⊗ step x
      side (inr p) = gone _ none ∙ sym (gone _ none)
        where
          none : step x ≡ R.zero
          none = Laws.sub_of_eq R _ _ (entry-short R run tall p (before (2 ^ lift run tall) x) ∙ sym (entry-short R run tall p x))

  pub weights-folded : Fits run.skip run.stack (run.log k) (run.start k) → (u : A)
      → fold_ple R half run.skip w (weights R half w run k) u ≡ window R (start_block run k) (2 ^ lift run tall) (table_weight R half w run k u)
  unfolding weights cell_weight column_factor table_weight eq_entry rot_entry indicator plain_entry raised
  weights-folded f u =
      ap₂ (λ b n. fold_ple R half run.skip w (window R b n (at_stride R (2 ^ gap run tall) (cell_weight R half w run k))) u) (row_block f)
      (slice-blocks run.skip (run.log k))
      ∙ ap₂ (λ l n. fold_ple R half l w (window R (2 ^ l * start_block run k) (2 ^ l * 2 ^ lift run tall) (at_stride R (2 ^ gap run tall) (rows n))) u)
      (sym (order_gap run.skip (run.log k))) (sym (rows_order run.skip (run.log k)))
      ∙ fold_ple-column (order run tall) (gap run tall) skip_parts (lift run tall) u (raised R run tall run.r0) (lifted_point run tall) (plain_power R run k)
      (rotated_power R run k) (start_block run k)
      ∙ ap (window R (start_block run k) (2 ^ lift run tall)) (fun_ext (λ x.
      ap (λ e. plain_power R run k ⊗ eq_entry R half w run tall u x ⊕ rotated_power R run k ⊗ (indicator R half w run tall u ⊗ (inner x ⊕ e))) (ends u x)))
    where
      inner : ℕ → A
      inner x =
          eq_uni R half (order run tall) (raised R run tall w) u (raised R run tall w ⊗ raised R run tall run.r0) ⊗ plain_entry R run tall x

      rows : ℕ → ℕ → A
      rows n t =
          plain_power R run k ⊗ column_factor R half w run tall t ⊕ rotated_power R run k ⊗ column_factor R half w run tall (before n t)

      skip_parts : Skip R half (order run tall + gap run tall) w
      skip_parts = subst (λ l. Skip R half l w) (sym (order_gap run.skip (run.log k))) skip
