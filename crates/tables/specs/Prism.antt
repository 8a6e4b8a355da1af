-- The prism: N = 2^l powers of w times a cube. Row t stands at the power t mod N and at the corner t / N.
use Rattle.std.specs.Prelude.{List, ℕ, ◌*◌, ◌^◌, ◌/◌, ◌%◌, length}
use Rattle.algebra.specs.Ring.{Ring}
use Rattle.algebra.specs.Sum.{sum}
use Rattle.algebra.specs.Multilinear.{cube_factor}
use Rattle.tables.specs.Lagrange.{lagrange}

module _ {A : Type 0} (R : Ring A) (half : A) (l : ℕ) (w : A) where
  -- the factor of row t at the point (z, x): L_(t mod N)(z) · cube_factor x (t / N). Document 01: e(t)
  unfoldable pub row_factor : A → List A → ℕ → A
  row_factor z xs t = R.mul (lagrange R half l w (t % 2 ^ l) z) (cube_factor R xs (t / 2 ^ l))

  -- Σ_{t<H} v_t · (factor of row t): the polynomial through the H = N·2^n values v, of degree below N in z and at most 1 in each x
  unfoldable pub prism : (ℕ → A) → A → List A → A
  prism v z xs = sum R (2 ^ l * 2 ^ length xs) (λ t. R.mul (v t) (row_factor z xs t))
