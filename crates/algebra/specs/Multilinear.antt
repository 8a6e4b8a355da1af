-- Polynomials of degree at most 1 in each variable, as tables of their values at the corners of the cube.
-- A table of 2^n entries is a function of the index; coordinate j of a point belongs to bit j of the index, the lowest first.
use Rattle.std.specs.Prelude.{List, [], ◌∷◌, ℕ, zero, suc, ◌+◌, ◌*◌, ◌/◌, ◌%◌, ◌^◌, length}
use Rattle.algebra.specs.Ring.{Ring, sub}
use Rattle.algebra.specs.Sum.{sum}

module _ {A : Type 0} (R : Ring A) where
  open R use {zero as 𝟘, one as 𝟙, add, mul}

  -- x where the bit is 1, else 1 − x
  unfoldable pub bit_factor : A → ℕ → A
  bit_factor x zero = sub R 𝟙 x
  bit_factor x (suc b) = x

  -- Π_j (x_j if bit j of i is 1, else 1 − x_j): entry i of the eq table of x
  unfoldable pub cube_factor : List A → ℕ → A
  cube_factor [] i = 𝟙
  cube_factor (x ∷ xs) i = mul (bit_factor x (i % 2)) (cube_factor xs (i / 2))

  -- Σ_i t_i · cube_factor x i: the multilinear polynomial through a table, at x
  unfoldable pub mle : (ℕ → A) → List A → A
  mle t xs = sum R (2 ^ length xs) (λ i. mul (t i) (cube_factor xs i))

  -- a + (b − a) · u: the line through a at 0 and b at 1
  unfoldable pub line : A → A → A → A
  line a b u = add a (mul (sub R b a) u)

  -- the table with its lowest variable put at u: entry y is t_2y + (t_2y+1 − t_2y) · u
  unfoldable pub fold_mle : (ℕ → A) → A → ℕ → A
  fold_mle t u y = line (t (2 * y)) (t (2 * y + 1)) u

  -- a bit as an element of the ring, and the n lowest bits of y, the lowest first: a corner of the cube
  unfoldable pub bit : ℕ → A
  bit zero = 𝟘
  bit (suc b) = 𝟙

  unfoldable pub bits : ℕ → ℕ → List A
  bits zero y = []
  bits (suc n) y = bit (y % 2) ∷ bits n (y / 2)
