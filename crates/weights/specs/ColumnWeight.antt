-- Column k's weight after folds at us: the factors of its starting row's bits past n_lift, one a fold. Document 01: past n_lift only bit
-- l_skip + round − 1 of that row enters the weight.
use Rattle.std.specs.Prelude.{List, ℕ, ◌/◌, ◌^◌, drop}
use Rattle.algebra.specs.Ring.{Ring}
use Rattle.algebra.specs.Multilinear.{cube_factor}
use Rattle.weights.specs.Run.{Run, start_block, lift}

module _ {A : Type 0} (R : Ring A) (run : Run A) where
  unfoldable pub column_weight : ℕ → List A → A
  column_weight k us = cube_factor R (drop (lift run (run.log k)) us) (start_block run k / 2 ^ lift run (run.log k))
