-- The true claims from the same rows: a column's value at r is Σ_i L_i(y) · P_k(i·N/M) over its M = 2^o powers, and the rotated one has w'y for y and, at i = 0,
-- Q_k(0) for P_k(0).
use mathlib.Core.Path.{◌≡◌, refl, sym, ◌∙◌, ap}
use mathlib.Core.List.{[], ◌∷◌}
use Prim.Native.Nat.{ℕ, zero, suc, ◌+◌, ◌*◌, ◌-◌, ◌^◌, ◌<◌}
use native.Mathlib.Nat
use native.Mathlib.Omega.{arith}
use Rattle.algebra.specs.Ring.{Ring}
use Rattle.algebra.specs.Sum.{sum}
use Rattle.algebra.proofs.Expression.{◌:*◌, ◌:=◌}
use Rattle.algebra.proofs.Solver.{solve}
use Rattle.algebra.proofs.Sums.{sum_cong, sum_cong_below, sum-mul, sum_swap, sum_grid}
use Rattle.algebra.proofs.Powers.{two_pow-pos, two_pow-add}
use Rattle.tables.specs.Index.{before}
use Rattle.tables.specs.Root.{Skip}
use Rattle.tables.specs.Lagrange.{lagrange}
use Rattle.tables.proofs.Indices.{before_inside, before_first}
use Rattle.tables.proofs.LagrangeBasis.{lagrange_turn}
use Rattle.tables.proofs.PrismFolds.{row_factor_at}
use Rattle.weights.specs.Run.{Run, stack_of, start_row, start_block, lift, gap, order}
use Rattle.weights.specs.ColumnFactor.{raised, lifted_point, column_factor}
use Rattle.weights.specs.ColumnValue.{cell, column_value, column_rotated}
use Rattle.weights.specs.HeightTables.{plain_entry}
use Rattle.weights.specs.StackColumns.{stack_rows}
use Rattle.weights.specs.Fits.{Fits}
use Rattle.weights.proofs.Blocks.{order_gap, rows_order, row_block}
use Rattle.weights.specs.Parts.{table_rows, plain_rows}

module _ {A : Type 0} (R : Ring A) (half w : A) (run : Run A) (cells : ℕ → A) (k : ℕ) (fits : Fits run.skip run.stack (run.log k) (run.start k)) where
  infixl 70 ◌⊗◌
  open R use {mul as ◌⊗◌}

  abbrev h : ℕ
  h = run.log k

  abbrev o : ℕ
  o = order run h

  abbrev m : ℕ
  m = lift run h

  abbrev stride : ℕ
  stride = 2 ^ gap run h

  abbrev L : ℕ → A → A
  L = lagrange R half o (raised R run h w)

  abbrev y : A
  y = raised R run h run.r0

  rows_is : 2 ^ h ≡ 2 ^ o * 2 ^ m
  rows_is = sym (rows_order run.skip h)

  block_is : stride * 2 ^ o ≡ 2 ^ run.skip
  block_is = sym (two_pow-add (gap run h) o) ∙ ap (λ n. 2 ^ n) (Nat.add_comm (gap run h) o ∙ order_gap run.skip h)

  -- where cell i + M·x stands
  place : (i x : ℕ) → start_row run k + stride * (i + 2 ^ o * x) ≡ stride * i + 2 ^ run.skip * (start_block run k + x)
  place i x =
      omega (arith, row_block fits, Nat.mul-add stride i (2 ^ o * x), sym (Nat.mul_assoc stride (2 ^ o) x), ap (λ n. n * x) block_is, Nat.mul-add (2 ^ run.skip) (start_block run k) x)

  factor_at_lem : (i x : ℕ) → i < 2 ^ o → column_factor R half w run h (i + 2 ^ o * x) ≡ L i y ⊗ plain_entry R run h x
  unfolding column_factor plain_entry
  factor_at_lem i x l = row_factor_at R half o (raised R run h w) y (lifted_point run h) i x l

  -- the cells of a row, each times an entry of a table
  gathered : (t : ℕ → A) (i : ℕ) → sum R (2 ^ m) (λ x. cell run cells k (i + 2 ^ o * x) ⊗ t x) ≡ table_rows R run cells t k (stride * i)
  unfolding cell table_rows
  gathered t i = sum_cong R (2 ^ m) (λ x. ap (λ n. stack_rows run cells (stack_of run k) n ⊗ t x) (place i x) ∙ R.mul_comm _ _)

  -- by rows: each i with its factor and its table
  by_rows : (e : ℕ → A) (c : ℕ → A) (t : ℕ → ℕ → A) → ((i x : ℕ) → i < 2 ^ o → x < 2 ^ m → e (i + 2 ^ o * x) ≡ c i ⊗ t i x)
      → sum R (2 ^ h) (λ s. cell run cells k s ⊗ e s) ≡ sum R (2 ^ o) (λ i. c i ⊗ table_rows R run cells (t i) k (stride * i))
  by_rows e c t g =
      ap (λ n. sum R n (λ s. cell run cells k s ⊗ e s)) rows_is ∙ sum_grid R (2 ^ o) (2 ^ m) (λ s. cell run cells k s ⊗ e s)
      ∙ sum_swap R (2 ^ m) (2 ^ o) (λ x i. cell run cells k (i + 2 ^ o * x) ⊗ e (i + 2 ^ o * x))
      ∙ sum_cong_below R (2 ^ o) (λ i l.
      sum_cong_below R (2 ^ m) (λ x l'. ap (λ a. cell run cells k (i + 2 ^ o * x) ⊗ a) (g i x l l')
      ∙ solve R (cell run cells k (i + 2 ^ o * x) ∷ c i ∷ t i x ∷ []) (λ a c t. a :* (c :* t) := c :* (a :* t)) refl)
      ∙ sum-mul R (2 ^ m) (c i) (λ x. cell run cells k (i + 2 ^ o * x) ⊗ t i x) ∙ ap (λ a. c i ⊗ a) (gathered (t i) i))

  pub opening_plain : column_value R half w run cells k ≡ sum R (2 ^ o) (λ i. L i y ⊗ plain_rows R run cells k (stride * i))
  unfolding column_value
  opening_plain = by_rows (column_factor R half w run h) (λ i. L i y) (λ i. plain_entry R run h) (λ i x l _. factor_at_lem i x l)

  -- the row before: in the same block, or for the first one in the block before
  abbrev pub table_for : ℕ → ℕ → A
  table_for zero x = plain_entry R run h (before (2 ^ m) x)
  table_for (suc i) x = plain_entry R run h x

  pub opening_rotated : Skip R half o (raised R run h w)
      → column_rotated R half w run cells k ≡ sum R (2 ^ o) (λ i. L i (raised R run h w ⊗ y) ⊗ table_rows R run cells (table_for i) k (stride * i))
  unfolding column_rotated before
  opening_rotated skip = by_rows (λ t. column_factor R half w run h (before (2 ^ h) t)) (λ i. L i (raised R run h w ⊗ y)) table_for turn
    where
      turn : (i x : ℕ) → i < 2 ^ o → x < 2 ^ m → column_factor R half w run h (before (2 ^ h) (i + 2 ^ o * x)) ≡ L i (raised R run h w ⊗ y) ⊗ table_for i x
      turn zero x l l' =
          ap (column_factor R half w run h) (ap (λ n. before n (0 + 2 ^ o * x)) rows_is ∙ before_first (2 ^ o) (2 ^ m) x (two_pow-pos o) (two_pow-pos m))
          ∙ factor_at_lem (2 ^ o - 1) (before (2 ^ m) x) (omega arith)
          ∙ ap (λ a. a ⊗ plain_entry R run h (before (2 ^ m) x)) (sym (lagrange_turn skip 0 y l))
      turn (suc i) x l l' =
          ap (column_factor R half w run h) (ap (λ n. before n (suc i + 2 ^ o * x)) rows_is ∙ before_inside (2 ^ o) (2 ^ m) i x)
          ∙ factor_at_lem i x (omega arith)
          ∙ ap (λ a. a ⊗ plain_entry R run h x) (sym (lagrange_turn skip (suc i) y l))
