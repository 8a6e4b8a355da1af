-- The integers modulo m, as the numbers below m.
use Rattle.std.specs.Prelude.{ℕ, ◌+◌, ◌*◌, ◌-◌, ◌%◌, ◌<◌}
use Rattle.std.proofs.Common.{mod-lt}

abbrev pub Zmod : ℕ → Type 0
Zmod m = (n : ℕ) × (n < m)

module _ (m : ℕ) (pos : 0 < m) where
  -- the class of a number
  unfoldable pub class : ℕ → Zmod m
  class n = (n % m, mod-lt n pos)

  unfoldable pub zadd : Zmod m → Zmod m → Zmod m
  zadd x y = class (x.0 + y.0)

  unfoldable pub zmul : Zmod m → Zmod m → Zmod m
  zmul x y = class (x.0 * y.0)

  unfoldable pub zneg : Zmod m → Zmod m
  zneg x = class (m - x.0)
