-- The weighted sum before any fold, by orders: rows added up over a column's blocks, over the columns of one order, and the kernel of that order.
-- A column of log height h has the order o = min l_skip h; y = r_0^(N/2^o) and w' = w^(N/2^o), with N = 2^l_skip.
use Rattle.std.specs.Prelude.{ℕ, suc, ◌+◌, ◌*◌, ◌-◌, ◌^◌}
use Rattle.algebra.specs.Ring.{Ring, sub, pow}
use Rattle.algebra.specs.Sum.{sum}
use Rattle.tables.specs.Index.{before}
use Rattle.tables.specs.Lagrange.{lagrange}
use Rattle.tables.specs.EqUni.{eq_uni}
use Rattle.tables.specs.InUni.{in_uni}
use Rattle.tables.specs.AtStride.{on_zero}
use Rattle.weights.specs.Run.{Run, stack_of, start_block, lift, order}
use Rattle.weights.specs.LambdaPowers.{if_flagged, plain_power}
use Rattle.weights.specs.HeightTables.{plain_entry}
use Rattle.weights.specs.StackColumns.{stack_rows}
use Rattle.tables.specs.Interpolated.{interpolated}
use Rattle.tables.specs.Product.{product_at}
use Rattle.tables.specs.Geometric.{geometric}

module _ {A : Type 0} (R : Ring A) where
  -- the element where the two numbers are equal, else zero
  unfoldable pub if_equal : ℕ → ℕ → A → A
  if_equal m n a = on_zero R (m - n + (n - m)) a

module _ {A : Type 0} (R : Ring A) (run : Run A) (cells : ℕ → A) where
  infixl 60 ◌⊕◌
  infixl 70 ◌⊗◌
  open R use {add as ◌⊕◌, mul as ◌⊗◌}

  -- the rows of column k's own blocks, each block times an entry of a table: row i of it
  unfoldable pub table_rows : (ℕ → A) → ℕ → ℕ → A
  table_rows t k i = sum R (2 ^ lift run (run.log k)) (λ x. t x ⊗ stack_rows run cells (stack_of run k) (i + 2 ^ run.skip * (start_block run k + x)))

  -- P_k: by the unscaled eq table; Q_k: by that of the block before
  abbrev pub plain_rows : ℕ → ℕ → A
  plain_rows k = table_rows (plain_entry R run (run.log k)) k

  abbrev pub turned_rows : ℕ → ℕ → A
  turned_rows k = table_rows (λ x. plain_entry R run (run.log k) (before (2 ^ lift run (run.log k)) x)) k

  -- λ^(2k), and that of flagged columns
  abbrev pub flagged_power : ℕ → A
  flagged_power k = if_flagged R (run.flag k) (plain_power R run k)

  -- over the columns of order o: U_o + F_o, F_o and, of the full order, G
  unfoldable pub class_rows : ℕ → ℕ → A
  class_rows o i = sum R run.count (λ k. if_equal R (order run (run.log k)) o (plain_power R run k) ⊗ plain_rows k i)

  unfoldable pub flagged_rows : ℕ → ℕ → A
  flagged_rows o i = sum R run.count (λ k. if_equal R (order run (run.log k)) o (flagged_power k) ⊗ plain_rows k i)

  unfoldable pub rotated_rows : ℕ → A
  rotated_rows i = sum R run.count (λ k. if_equal R (order run (run.log k)) run.skip (flagged_power k) ⊗ turned_rows k i)

module _ {A : Type 0} (R : Ring A) (half w : A) (run : Run A) (cells : ℕ → A) where
  infixl 60 ◌⊕◌
  infixl 70 ◌⊗◌
  open R use {one as 𝟙, add as ◌⊕◌, mul as ◌⊗◌}

  -- x^(N/2^o)
  abbrev pub at_order : ℕ → A → A
  at_order o x = pow R x (2 ^ (run.skip - o))

  -- the kernel of order o, at z and y: ind · eq_uni
  unfoldable pub kernel_at : ℕ → A → A → A
  kernel_at o y z = in_uni R half o (run.skip - o) w z ⊗ eq_uni R half o (at_order o w) z y

  -- the polynomial through v, at z
  unfoldable pub through : (ℕ → A) → A → A
  through v z = sum R (2 ^ run.skip) (λ i. v i ⊗ lagrange R half run.skip w i z)

  -- c = eq_uni(w·r_0, 1)
  unfoldable pub wrap : A
  wrap = eq_uni R half run.skip w (w ⊗ run.r0) 𝟙

  -- coefficient j of the product of the kernel of order o at y and of the polynomial through v
  unfoldable pub kernel_product : ℕ → A → (ℕ → A) → ℕ → A
  kernel_product o y v j = product_at R (2 ^ run.skip) (geometric R half run.skip o y) (interpolated R half run.skip w v) j

  -- what the algorithm adds up
  unfoldable pub parts_coefficient : ℕ → A
  parts_coefficient j =
      sum R (suc run.skip) (λ o.
      kernel_product o (at_order o run.r0) (class_rows R run cells o) j
      ⊕ run.lambda ⊗ kernel_product o (at_order o w ⊗ at_order o run.r0) (flagged_rows R run cells o) j)
      ⊕ run.lambda ⊗ wrap ⊗ kernel_product run.skip 𝟙 (λ i. sub R (rotated_rows R run cells i) (flagged_rows R run cells run.skip i)) j
