-- The lambda powers of column k, and the claims in the same order. Document 01: the k-th column over all commitments has lambda powers 2k and
-- 2k + 1, the second even when unused; claims in lambda order, a (plain, rotated) pair for flagged columns, else one.
use Rattle.std.specs.Prelude.{ℕ, zero, suc, ◌+◌, ◌*◌}
use Rattle.algebra.specs.Ring.{Ring, pow}
use Rattle.algebra.specs.Sum.{sum}
use Rattle.weights.specs.Run.{Run}

-- the number of claims of a column with this flag
unfoldable pub claims_of : ℕ → ℕ
claims_of zero = 1
claims_of (suc f) = 2

-- the number of claims of the columns before column k
unfoldable pub claims_before : {A : Type 0} → Run A → ℕ → ℕ
claims_before run zero = 0
claims_before run (suc k) = claims_before run k + claims_of (run.flag k)

module _ {A : Type 0} (R : Ring A) where
  -- the element where the flag is set, else zero
  unfoldable pub if_flagged : ℕ → A → A
  if_flagged zero a = R.zero
  if_flagged (suc f) a = a

module _ {A : Type 0} (R : Ring A) (run : Run A) where
  -- lambda^(2k), and lambda^(2k+1) where the column is flagged
  unfoldable pub plain_power : ℕ → A
  plain_power k = pow R run.lambda (2 * k)

  unfoldable pub rotated_power : ℕ → A
  rotated_power k = if_flagged R (run.flag k) (pow R run.lambda (2 * k + 1))

  -- Document 01: the weighted claims are the sum of the claims times their lambda powers
  unfoldable pub weighted_claims : (ℕ → A) → A
  weighted_claims claims =
      sum R run.count (λ k.
      R.add (R.mul (plain_power k) (claims (claims_before run k))) (R.mul (rotated_power k) (claims (claims_before run k + 1))))
