-- The eq and the rotation table of a log height h after the fold at u_0. Document 01: the fold at u_0 makes the rotation table from the unscaled
-- eq entries, then scales the eq table.
use Rattle.std.specs.Prelude.{ℕ, ◌^◌}
use Rattle.algebra.specs.Ring.{Ring, sub}
use Rattle.algebra.specs.Multilinear.{cube_factor}
use Rattle.tables.specs.Index.{before}
use Rattle.tables.specs.EqUni.{eq_uni}
use Rattle.tables.specs.InUni.{in_uni}
use Rattle.weights.specs.Run.{Run, lift, gap, order}
use Rattle.weights.specs.ColumnFactor.{raised, lifted_point}
use Rattle.weights.specs.LambdaPowers.{plain_power, rotated_power}

module _ {A : Type 0} (R : Ring A) (run : Run A) where
  -- entry x of the unscaled eq table: the factor of the corner x at r_1 to r_n_lift
  unfoldable pub plain_entry : ℕ → ℕ → A
  plain_entry h x = cube_factor R (lifted_point run h) x

module _ {A : Type 0} (R : Ring A) (half w : A) (run : Run A) where
  infixl 60 ◌⊕◌
  infixl 70 ◌⊗◌
  open R use {one as 𝟙, add as ◌⊕◌, mul as ◌⊗◌}

  -- `eval_in_uni`: 1 for n ≥ 0
  unfoldable pub indicator : ℕ → A → A
  indicator h u = in_uni R half (order run h) (gap run h) w u

  -- entry x of the scaled eq table: in_uni · eq(u_0, r_0 raised) · (unscaled entry)
  unfoldable pub eq_entry : ℕ → A → ℕ → A
  eq_entry h u x = indicator h u ⊗ eq_uni R half (order run h) (raised R run h w) u (raised R run h run.r0) ⊗ plain_entry R run h x

  -- entry x of the rotation table: the row before in the same block of 2^l_skip rows, and where it lies in the block before
  unfoldable pub rot_entry : ℕ → A → ℕ → A
  rot_entry h u x =
      indicator h u
      ⊗ (eq_uni R half (order run h) (raised R run h w) u (raised R run h w ⊗ raised R run h run.r0) ⊗ plain_entry R run h x
      ⊕ eq_uni R half run.skip w u 𝟙 ⊗ eq_uni R half run.skip w (w ⊗ run.r0) 𝟙
      ⊗ sub R (plain_entry R run h (before (2 ^ lift run h) x)) (plain_entry R run h x))

  -- both tables of column k with its lambda powers: the weight of its block x
  unfoldable pub table_weight : ℕ → A → ℕ → A
  table_weight k u x = plain_power R run k ⊗ eq_entry (run.log k) u x ⊕ rotated_power R run k ⊗ rot_entry (run.log k) u x
