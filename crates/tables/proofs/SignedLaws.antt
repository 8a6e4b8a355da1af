-- How far a signed number lies below 0: the size of its minimum with 0.
use mathlib.Core.Path.{◌≡◌, refl}
use native.Mathlib.Omega.{arith}
use lib.IntN.{ℤ, pos, negsuc, nat_abs}
use Rattle.std.specs.Int.{int_min}
use Rattle.tables.specs.AtField.{lack}

pub lack_is : (n : ℤ) → nat_abs (int_min n (pos 0)) ≡ lack n
unfolding lack
lack_is (pos a) = grind arith
lack_is (negsuc m) = refl
