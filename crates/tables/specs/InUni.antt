-- The factor of a column of 2^h rows laid at stride 2^d in the 2^(h+d) rows of the skip subgroup: L_0 of the subgroup of order 2^d, at z^(2^h).
-- 1 at the powers of w that the column's rows take, 0 at the others. Document 01: `eval_in_uni` at n = −d.
use Rattle.std.specs.Prelude.{ℕ, ◌^◌}
use Rattle.algebra.specs.Ring.{Ring, pow}
use Rattle.tables.specs.Lagrange.{lagrange}

module _ {A : Type 0} (R : Ring A) (half : A) (h d : ℕ) (w : A) where
  unfoldable pub in_uni : A → A
  in_uni z = lagrange R half d (pow R w (2 ^ h)) 0 (pow R z (2 ^ h))
