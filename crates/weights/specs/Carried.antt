-- Sent quadratics and the carried claim, round j counted from 0: pairs p j, q j at 1 and 2, challenges u j. Document 01: the sent one has the pair at
-- 1 and 2 and, at 0, the carried claim less its value at 1; the carried claim is the first polynomial's value at u_0, then each sent quadratic's at
-- its challenge.
use Rattle.std.specs.Prelude.{◌≡◌, ◌≢◌, ◌⊎◌, ℕ, zero, suc, ◌<◌}
use Rattle.algebra.specs.Ring.{Ring, sub, num}
use Rattle.tables.specs.Quadratic.{quadratic}

module _ {A : Type 0} (R : Ring A) (half : A) where
  unfoldable pub sent : A → A → A → A → A
  sent claim s1 s2 x = quadratic R half (sub R claim s1) s1 s2 x

  -- the claim after j rounds
  unfoldable pub carried : A → (ℕ → A) → (ℕ → A) → (ℕ → A) → ℕ → A
  carried claim p q u zero = claim
  carried claim p q u (suc j) = sent (carried claim p q u j) (p j) (q j) (u j)

  -- round j's sent quadratic
  unfoldable pub sent_at : A → (ℕ → A) → (ℕ → A) → (ℕ → A) → ℕ → A → A
  sent_at claim p q u j x = sent (carried claim p q u j) (p j) (q j) x

-- a challenge of the first n rounds is 1 or 2
abbrev pub OneOrTwo : {A : Type 0} → Ring A → (ℕ → A) → ℕ → Type 0
OneOrTwo R u n = (j : ℕ) × (j < n) × ((u j ≡ R.one) ⊎ (u j ≡ num R 2))

-- in a round the sent and the honest quadratic f and g differ somewhere, yet agree at the challenge
pub record Slip {A : Type 0} (f g : A → A) (challenge : A) : Type 0 where
  pub differ : (x : A) × (f x ≢ g x)
  pub agree : f challenge ≡ g challenge
