-- e(t), the factor of row t of a column in its value at r. Document 01: a trace column is read alike on its own rows, with n_lift bits, and for
-- n < 0 with z among the powers of the raised generator; its value at r (r_0, raised alike, for z; r_i for x_i) is a sum over its rows.
use Rattle.std.specs.Prelude.{List, ℕ, ◌^◌, take}
use Rattle.algebra.specs.Ring.{Ring, pow}
use Rattle.tables.specs.Prism.{row_factor}
use Rattle.weights.specs.Run.{Run, lift, gap, order}

module _ {A : Type 0} (run : Run A) (h : ℕ) where
  -- r_1 to r_n_lift
  unfoldable pub lifted_point : List A
  lifted_point = take (lift run h) run.rs

module _ {A : Type 0} (R : Ring A) (run : Run A) (h : ℕ) where
  -- x raised to 2^(−n) where n < 0, else x
  unfoldable pub raised : A → A
  raised x = pow R x (2 ^ gap run h)

module _ {A : Type 0} (R : Ring A) (half w : A) (run : Run A) where
  -- of a column of log height h
  unfoldable pub column_factor : ℕ → ℕ → A
  column_factor h t = row_factor R half (order run h) (raised R run h w) (raised R run h run.r0) (lifted_point run h) t
