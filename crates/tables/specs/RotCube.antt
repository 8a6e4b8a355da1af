-- The rotation kernel of the cube, Σ_{i<2^m} (entry i of x's eq table) · (entry i − 1 of y's), the last entry before entry 0.
-- Document 01: the second part of `eval_eq_rot_cube`.
use Rattle.std.specs.Prelude.{List, ◌^◌, length}
use Rattle.algebra.specs.Ring.{Ring}
use Rattle.algebra.specs.Sum.{sum}
use Rattle.algebra.specs.Multilinear.{cube_factor}
use Rattle.tables.specs.Index.{before}

module _ {A : Type 0} (R : Ring A) where
  unfoldable pub rot_cube : List A → List A → A
  rot_cube xs ys = sum R (2 ^ length xs) (λ i. R.mul (cube_factor R xs i) (cube_factor R ys (before (2 ^ length xs) i)))
