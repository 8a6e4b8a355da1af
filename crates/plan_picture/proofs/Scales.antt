-- Bounds of the picture's measures.
use Prim.Native.Nat.{ℕ, ◌+◌, ◌*◌, ◌^◌, ◌≤◌, ◌<◌}
use native.Mathlib.Nat.{mul-le-mul, mul-le-mul_right, div-le_self}
use native.Mathlib.Omega.{arith}
use lib.Ieee.Nearest.{div_mono}
use Rattle.layout.proofs.Slices.{slice-pos, slice-small}
use Rattle.layout.specs.Packed.{log_field}
use Rattle.plan_picture.specs.Fields.{rows_of}
use Rattle.plan_picture.specs.Scale.{pitch, down, tall_of}

pub pitch-within : (width : ℕ) → (3 ≤ pitch width) × (pitch width ≤ 96)
unfolding pitch
pitch-within width = (omega arith, omega arith)

pub left_low : (width k : ℕ) → k ≤ 4096 → k * pitch width ≤ 393216
left_low width k h = omega (arith, mul-le-mul {n₁ = k} {m₁ = pitch width} {n₂ = 4096} {m₂ = 96} h (pitch-within width).1)

module _ (l x : ℕ) where
  pub rows-some : 0 < rows_of l x
  rows-some = slice-pos l (log_field x)

  pub rows-small : l ≤ 10 → rows_of l x ≤ 2 ^ 31
  rows-small h = slice-small l (log_field x) 31 (omega arith) (omega arith)

module _ (height row rows : ℕ) where
  pub down_rises : 0 < height → down height row ≤ down height (row + rows)
  down_rises h = div_mono (row * 512) height ((row + rows) * 512) height h h (mul-le-mul_right height (omega arith))

  pub down_low : down height row ≤ row * 512
  down_low = div-le_self (row * 512) height

  pub tall_low : tall_of height row rows ≤ 1 + (row + rows) * 512
  tall_low = omega (arith, div-le_self ((row + rows) * 512) height)
