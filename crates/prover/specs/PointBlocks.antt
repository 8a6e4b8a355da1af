-- A round's points by blocks of 256: a block's weights, and a column's part of it.
use Rattle.std.specs.Prelude.{◌≡◌, ℕ, ◌+◌, ◌-◌, ◌*◌, ◌/◌, ◌%◌, ◌^◌, ◌<◌, ◌≤◌, true, false, cond, List, [], ◌∷◌, ◌==◌, nat_le, slice_index}
use Rattle.algebra.specs.Ring.{pow}
use Rattle.algebra.specs.Sum.{sum}
use Rattle.algebra.specs.Multilinear.{fold_mle}
use Rattle.field.specs.Word.{Fp, word_of, number}
use Rattle.field.specs.Element.{Elem, F, ◌⊕◌, ◌⊗◌, words_of}
use Rattle.field.specs.Slice.{elem_at, words_at}
use Rattle.layout.specs.declared.columns.Column.{Column}
use Rattle.layout.specs.Columns.{column_at}
use Rattle.weights.specs.LambdaPowers.{if_flagged}
use Rattle.prover.specs.Written.{elems_from}
use Rattle.prover.specs.RoundValues.{round_bit, one_or_two}

-- how many of m points are in block b
unfoldable pub block_points : ℕ → ℕ → ℕ
block_points m b = cond (nat_le 256 (m - 256 * b)) 256 (m - 256 * b)

-- the weight of point y at x, from a height's two tables: the lines through entries 2y and 2y + 1, the second with a power of lambda more where
-- the flag is set
unfoldable pub weight_line : ℕ → Elem → (ℕ → Elem) → (ℕ → Elem) → Elem → ℕ → Elem
weight_line flag lambda e t x y = fold_mle F e x y ⊕ if_flagged F flag (lambda ⊗ fold_mle F t x y)

-- 11 times the words 1 to 3 of an element: what they come to at X⁴
unfoldable pub times_eleven : List ℕ → List ℕ
times_eleven w = eleven 1 ∷ eleven 2 ∷ eleven 3 ∷ 0 ∷ []
  where
    eleven : ℕ → ℕ
    eleven i = number (Fp.mul (word_of 11) (word_of (slice_index w i)))

-- a table of the elements f 0 to f (n − 1) and, 256 elements on, of their words that come round
pub record Weights (n : ℕ) (f : ℕ → Elem) (t : List ℕ) : Type 0 where
  pub values : (y : ℕ) → y < n → words_at t y ≡ words_of (f y)
  pub beside : (y : ℕ) → y < n → words_at t (256 + y) ≡ times_eleven (words_of (f y))

-- the weights of n points at 1 and at 2
pub record Ready (n flag : ℕ) (lambda : Elem) (e r : ℕ → Elem) (one two : List ℕ) : Type 0 where
  pub at_one : Weights n (weight_line flag lambda e r (one_or_two false)) one
  pub at_two : Weights n (weight_line flag lambda e r (one_or_two true)) two

-- the sum over n points of a table's lines at x, from point b on, each times its weight
unfoldable pub point_sum : ℕ → (ℕ → Elem) → ℕ → Elem → (ℕ → Elem) → Elem
point_sum n q b x w = sum F n (λ y. fold_mle F q x (b + y) ⊗ w y)

-- how many points of block b a column of log height h has in round j: none past its height
unfoldable pub column_points : ℕ → ℕ → ℕ → ℕ → ℕ
column_points l j h b = cond (nat_le j (h - l)) (block_points (2 ^ (h - l - j)) b) 0

-- A column's part of round j's quadratic in block b, but its own weight and power of lambda; past its height all of it is in block 0
unfoldable pub column_block : ℕ → ℕ → ℕ → ℕ → ℕ → Elem → (ℕ → Elem) → (ℕ → Elem) → (ℕ → Elem) → ℕ → Elem → Elem
column_block l j s h flag lambda q e t b x =
    cond (nat_le j (h - l))
    (point_sum (block_points (2 ^ (h - l - j)) b) (λ i. q (s / 2 ^ (l + j - 1) + i)) (256 * b) x (λ y. weight_line flag lambda e t x (256 * b + y)))
    (cond (b == 0) (round_bit (λ i. q (2 * (s / 2 ^ (l + j)) + i)) (s / 2 ^ (l + j - 1) % 2) x ⊗ (e 0 ⊕ if_flagged F flag (lambda ⊗ t 0))) F.zero)

-- column k's part in block b, and that of the first m columns
module _ (l n first : ℕ) (lists slots : List ℕ) (lambda : Elem) (j : ℕ) (q eq rot ub : List ℕ) where
  unfoldable pub block_term : ℕ → Elem → ℕ → Elem
  block_term b x k =
      pow F lambda (2 * k) ⊗ elem_at ub k
      ⊗ column_block l j here.start here.log here.flag lambda (elem_at q) (elems_from eq (slice_index slots here.log)) (elems_from rot (slice_index slots here.log)) b x
    where
      here : Column
      here = column_at l n first lists k

  unfoldable pub block_sum : ℕ → ℕ → Elem → Elem
  block_sum m b x = sum F m (block_term b x)

-- columns m to k − 1 have no points in block b
abbrev pub Idle : ℕ → ℕ → ℕ → List ℕ → ℕ → ℕ → ℕ → ℕ → Type 0
Idle l n first lists j b m k = (i : ℕ) → m ≤ i → i < k → column_points l j (column_at l n first lists i).log b ≡ 0
