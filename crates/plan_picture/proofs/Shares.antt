-- The used cells, a record a turn.
use Prim.Native.Nat.{ℕ, zero, suc, ◌+◌, ◌*◌, ◌^◌, ◌≤◌}
use mathlib.Core.Path.{◌≡◌, sym, ap, ap₂, ◌∙◌}
use mathlib.Core.List.{List}
use native.Mathlib.Omega.{arith}
use native.Mathlib.Numerals.{add-one}
use lib.ListN.{get_or}
use Rattle.plan_picture.specs.Fields.{rows_of}
use Rattle.plan_picture.specs.Share.{used_cells}
use Rattle.plan_picture.proofs.Scales.{rows-small}

module _ (l : ℕ) (records : List ℕ) where
  pub used_next : (k n rows : ℕ) → n ≡ used_cells l records k → rows ≡ rows_of l (get_or records (2 * k + 1) 0) → n + rows ≡ used_cells l records (k + 1)
  unfolding used_cells
  used_next k n rows e f = ap₂ ◌+◌ e f ∙ ap (used_cells l records) (sym (add-one k))

  pub used_low : l ≤ 10 → (k : ℕ) → used_cells l records k ≤ k * 2 ^ 31
  unfolding used_cells
  used_low h zero = omega arith
  used_low h (suc k) = omega (arith, used_low h k, rows-small l (get_or records (2 * k + 1) 0) h)
