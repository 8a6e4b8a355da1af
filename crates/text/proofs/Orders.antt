-- Of two numbers one is below the other or at least it.
use Prim.Native.Nat.{ℕ, ◌≤◌, ◌<◌}
use mathlib.Core.Path.{◌≡◌, refl}
use mathlib.Core.Bool.{Bool, true, false}
use mathlib.Core.Logic.{◌⊎◌, inl, inr}
use lib.Dec.{ltb}
use borrow.Author.Tests.{ltb-true, ltb-false}

below_or_by : (a b : ℕ) (t : Bool) → ltb a b ≡ t → (a < b) ⊎ (b ≤ a)
below_or_by a b true e = inl (ltb-true a b e)
below_or_by a b false e = inr (ltb-false a b e)

pub below_or : (a b : ℕ) → (a < b) ⊎ (b ≤ a)
below_or a b = below_or_by a b (ltb a b) refl
