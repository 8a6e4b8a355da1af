-- One column's part of a whole round, which its parts in the blocks of points add up to.
use Rattle.std.proofs.Common.{◌≡◌, ℕ, ◌+◌, ◌-◌, ◌*◌, ◌/◌, ◌%◌, ◌^◌, ◌<◌, ◌≤◌, cond, leb, refl, le-leb}
use borrow.Author.Tests.{lt-leb}
use Rattle.algebra.specs.Sum.{sum}
use Rattle.algebra.specs.Multilinear.{fold_mle}
use Rattle.field.specs.Element.{Elem, F, ◌⊕◌, ◌⊗◌}
use Rattle.weights.specs.LambdaPowers.{if_flagged}
use Rattle.prover.specs.RoundValues.{round_bit}

-- Σ_{y<m} a(x, y) · b(x, y): the lines through entries 2y and 2y + 1 of two tables, at x
unfoldable pub round_sum : ℕ → (ℕ → Elem) → (ℕ → Elem) → Elem → Elem
round_sum m a b x = sum F m (λ y. fold_mle F a x y ⊗ fold_mle F b x y)

-- A column's part of round j's quadratic but its own weight and power of lambda: its first cell is s, counted through all stack columns, q the folded
-- values and e, t its height's two tables before the fold. The values are read from the column's own row.
unfoldable pub column_round : ℕ → ℕ → ℕ → ℕ → ℕ → Elem → (ℕ → Elem) → (ℕ → Elem) → (ℕ → Elem) → Elem → Elem
column_round l j s h flag lambda q e t x =
    cond (leb j (h - l))
    (round_sum (2 ^ (h - l - j)) (λ i. q (s / 2 ^ (l + j - 1) + i)) e x
    ⊕ if_flagged F flag (lambda ⊗ round_sum (2 ^ (h - l - j)) (λ i. q (s / 2 ^ (l + j - 1) + i)) t x))
    (round_bit (λ i. q (2 * (s / 2 ^ (l + j)) + i)) (s / 2 ^ (l + j - 1) % 2) x ⊗ (e 0 ⊕ if_flagged F flag (lambda ⊗ t 0)))

-- which of the two a column is
module _ (l j s h flag : ℕ) (lambda : Elem) (q e t : ℕ → Elem) (x : Elem) where
  pub round_long : j ≤ h - l
      → round_sum (2 ^ (h - l - j)) (λ i. q (s / 2 ^ (l + j - 1) + i)) e x ⊕ if_flagged F flag (lambda ⊗ round_sum (2 ^ (h - l - j)) (λ i. q (s / 2 ^ (l + j - 1) + i)) t x)
      ≡ column_round l j s h flag lambda q e t x
  unfolding column_round
  round_long k = rw (le-leb _ _ k) refl

  pub round_short : h - l < j
      → round_bit (λ i. q (2 * (s / 2 ^ (l + j)) + i)) (s / 2 ^ (l + j - 1) % 2) x ⊗ (e 0 ⊕ if_flagged F flag (lambda ⊗ t 0)) ≡ column_round l j s h flag lambda q e t x
  unfolding column_round
  round_short k = rw (lt-leb _ _ k) refl
