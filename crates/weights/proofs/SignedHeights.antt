-- n = log height − l_skip as a signed word: it fits, and how far it lies below 0.
use mathlib.Core.Path.{◌≡◌, sym, ◌∙◌, ap, ap₂, subst}
use Prim.Native.Nat.{ℕ, zero, suc, ◌+◌, ◌-◌, ◌<◌, ◌≤◌}
use native.Mathlib.Decide.{dec_lt}
use native.Mathlib.Omega.{arith}
use lib.IntN.{pos, ◌-ℤ◌}
use lib.Signed.{mag}
use mir.Syntax.{w32}
use mir.Val.{SFits, to_z, of_z}
use mir.Facts.{to_z-of_z, to_z_pos}
use borrow.Author.Tests.{lt-ltb, le-ltb}
use Rattle.tables.specs.AtField.{lack}

difference : (h l : ℕ) → (lack (pos h -ℤ pos l) ≡ l - h) × (mag (pos h -ℤ pos l) ≤ h + l)
unfolding lack
difference h zero = (omega arith, omega arith)
difference h (suc m) = by_case (dec_lt h (suc m))
  where
    by_case : Dec (h < suc m) → (lack (pos h -ℤ pos (suc m)) ≡ suc m - h) × (mag (pos h -ℤ pos (suc m)) ≤ h + suc m)
    by_case (yes e) = simp (lt-ltb h (suc m) e) (omega arith, omega arith)
    by_case (no e) = simp (le-ltb h (suc m) (omega arith)) (omega arith, omega arith)

module _ (h l : ℕ) (low : h ≤ 24) (small : l ≤ 10) where
  read : to_z w32 h -ℤ to_z w32 l ≡ pos h -ℤ pos l
  read = ap₂ ◌-ℤ◌ (to_z_pos w32 {n = h} (omega arith)) (to_z_pos w32 {n = l} (omega arith))

  pub signed_fits : SFits w32 (to_z w32 h -ℤ to_z w32 l)
  signed_fits = subst (SFits w32) (sym read) (record { sfits = omega (arith, (difference h l).1) })

  pub signed_lack : lack (to_z w32 (of_z w32 (to_z w32 h -ℤ to_z w32 l))) ≡ l - h
  signed_lack = ap lack (to_z-of_z signed_fits ∙ read) ∙ (difference h l).0
