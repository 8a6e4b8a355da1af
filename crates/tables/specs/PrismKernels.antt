-- The kernels of the prism at two points (x, xs) and (y, ys), as sums over its H = 2^l · 2^n rows.
use Rattle.std.specs.Prelude.{List, ℕ, ◌*◌, ◌^◌, length}
use Rattle.algebra.specs.Ring.{Ring}
use Rattle.algebra.specs.Sum.{sum}
use Rattle.tables.specs.Index.{before}
use Rattle.tables.specs.Prism.{row_factor}

module _ {A : Type 0} (R : Ring A) (half : A) (l : ℕ) (w : A) where
  -- Σ_t (factor of row t at the first) · (factor of row t at the second). Document 01: `eval_eq_prism`
  unfoldable pub eq_prism : A → List A → A → List A → A
  eq_prism x xs y ys = sum R (2 ^ l * 2 ^ length xs) (λ t. R.mul (row_factor R half l w x xs t) (row_factor R half l w y ys t))

  -- Σ_t (factor of row t at the first) · (factor of row t − 1 at the second), the last row before row 0. Document 01: `eval_rot_kernel_prism`
  unfoldable pub rot_prism : A → List A → A → List A → A
  rot_prism x xs y ys =
      sum R (2 ^ l * 2 ^ length xs) (λ t. R.mul (row_factor R half l w x xs t) (row_factor R half l w y ys (before (2 ^ l * 2 ^ length xs) t)))
