-- eq(x, y) of the cube, Π_j (x_j·y_j + (1 − x_j)·(1 − y_j)): 1 where x = y and 0 elsewhere on the corners. Document 01: `eval_eq_mle`.
-- The points have the same number of coordinates; past the end of the shorter one there are no factors.
use Rattle.std.specs.Prelude.{List, [], ◌∷◌}
use Rattle.algebra.specs.Ring.{Ring, sub}

module _ {A : Type 0} (R : Ring A) where
  open R use {one as 𝟙, add, mul}

  unfoldable pub eq_mle : List A → List A → A
  eq_mle [] ys = 𝟙
  eq_mle (x ∷ xs) [] = 𝟙
  eq_mle (x ∷ xs) (y ∷ ys) = mul (add (mul x y) (mul (sub R 𝟙 x) (sub R 𝟙 y))) (eq_mle xs ys)
