-- The generator w of the skip subgroup, whose 2^l powers are its elements: w = 1 where l is 0, else w^(2^(l − 1)) = −1.
use Rattle.std.specs.Prelude.{◌≡◌, ℕ, zero, suc, ◌^◌}
use Rattle.algebra.specs.Ring.{Ring, num, pow}

abbrev pub IsRoot : {A : Type 0} → Ring A → ℕ → A → Type 0
IsRoot R zero w = w ≡ R.one
IsRoot R (suc l) w = pow R w (2 ^ l) ≡ R.neg R.one

-- What every law of the subgroup asks: such a generator, in a ring with a half.
pub record Skip {A : Type 0} (R : Ring A) (half : A) (l : ℕ) (w : A) : Type 0 where
  pub half_two : R.mul half (num R 2) ≡ R.one
  pub root : IsRoot R l w
