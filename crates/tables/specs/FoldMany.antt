-- A table after folds at u_1, .., u_j, the first challenge for the lowest variable. Document 01: folded so far.
use Rattle.std.specs.Prelude.{List, [], ◌∷◌, ℕ}
use Rattle.algebra.specs.Ring.{Ring}
use Rattle.algebra.specs.Multilinear.{fold_mle}

module _ {A : Type 0} (R : Ring A) where
  unfoldable pub fold_many : (ℕ → A) → List A → ℕ → A
  fold_many t [] = t
  fold_many t (u ∷ us) = fold_many (fold_mle R t u) us
