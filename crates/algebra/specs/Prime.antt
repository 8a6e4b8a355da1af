-- Prime numbers.
use Rattle.std.specs.Prelude.{◌≢◌, ℕ, ◌%◌, ◌<◌}

pub record Prime (p : ℕ) : Type 0 where
  pub above_one : 1 < p
  pub no_divisor_lem : (d : ℕ) → 1 < d → d < p → p % d ≢ 0
