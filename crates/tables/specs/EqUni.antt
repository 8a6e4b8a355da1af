-- eq_D(x, y) of the univariate skip, Σ_{i<N} L_i(x) · L_i(y): 1 where x = y and 0 elsewhere on the subgroup, of degree below N in each.
-- Document 01: `eval_eq_uni`.
use Rattle.std.specs.Prelude.{ℕ, ◌^◌}
use Rattle.algebra.specs.Ring.{Ring}
use Rattle.algebra.specs.Sum.{sum}
use Rattle.tables.specs.Lagrange.{lagrange}

module _ {A : Type 0} (R : Ring A) (half : A) (l : ℕ) (w : A) where
  unfoldable pub eq_uni : A → A → A
  eq_uni x y = sum R (2 ^ l) (λ i. R.mul (lagrange R half l w i x) (lagrange R half l w i y))
