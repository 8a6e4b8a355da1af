-- A block's points and their weights: how many, and the table that they are written into.
use Rattle.std.proofs.Common.{◌≡◌, ℕ, ◌+◌, ◌-◌, ◌*◌, ◌%◌, ◌^◌, ◌<◌, ◌≤◌, min, cond, leb, List, length, sym, refl, ap, ◌∙◌, ap₂, arith, le-leb}
use native.Mathlib.Decide.{dec_le, ℕ_discrete}
use borrow.Author.Tests.{lt-leb}
use Rattle.algebra.proofs.Powers.{shift_exact}
use Rattle.field.specs.Element.{Elem, F, ◌⊕◌, ◌⊗◌, elem_of, words_of}
use Rattle.field.specs.Canonical.{Canonical}
use Rattle.field.specs.Slice.{elem_at, words_at, put}
use Rattle.field.proofs.Elements.{elem_of_words, words_of_elem_of}
use Rattle.field.proofs.Residues.{below}
use Rattle.field.proofs.ElementWords.{elem_of_words_at, words_same, words_other}
use Rattle.weights.specs.LambdaPowers.{if_flagged}
use Rattle.weights.proofs.PowerWalks.{flag_some}
use Rattle.prover.specs.PointBlocks.{block_points, times_eleven, Weights}

-- x + lambda · y where the flag is set, from words
pub with_lambda_lem : (f : ℕ) (x y : Elem) (lambda : List ℕ) {a b r : List ℕ} → (f ≡ 0 → ⊥) → a ≡ words_of x → b ≡ words_of y → r ≡ words_of (elem_of a ⊕ elem_of lambda ⊗ elem_of b)
    → r ≡ words_of (x ⊕ if_flagged F f (elem_of lambda ⊗ y))
with_lambda_lem f x y lambda n ea eb er =
    er ∙ ap₂ (λ u v. words_of (u ⊕ v)) (elem_of_words _ ea) (ap (λ v. elem_of lambda ⊗ v) (elem_of_words _ eb) ∙ sym (flag_some f _ n))

-- a whole block, and the rest
pub block_full : (m b : ℕ) → 256 ≤ m - 256 * b → 256 ≡ block_points m b
unfolding block_points
block_full m b h = rw (le-leb 256 (m - 256 * b) h) refl

pub block-rest : (m b : ℕ) → m - 256 * b < 256 → m - 256 * b ≡ block_points m b
unfolding block_points
block-rest m b h = rw (lt-leb 256 (m - 256 * b) h) refl

pub block_least : (m b : ℕ) {r : ℕ} → r ≡ min (m - 256 * b) 256 → r ≡ block_points m b
block_least m b {r} e = by_case (dec_le 256 (m - 256 * b))
  where
    by_case : Dec (256 ≤ m - 256 * b) → r ≡ block_points m b
    by_case (yes h) = let whole : r ≡ 256 = omega arith in whole ∙ block_full m b h
    by_case (no h) = let rest : r ≡ m - 256 * b = omega arith in rest ∙ block-rest m b (omega arith)

-- the number of a block's points, as the code finds it
module _ {lift round : ℕ} where
  pub points_short : (b : ℕ) → lift < round → 0 ≡ cond (leb round lift) (block_points (2 ^ (lift - round)) b) 0
  points_short b h = rw (lt-leb _ _ h) refl

  module _ (b : ℕ) (h : round ≤ lift) (k : lift ≤ 20) where
    abbrev half : ℕ
    half = 1 * 2 ^ (lift - round) % 18446744073709551616

    half_is : half ≡ 2 ^ (lift - round)
    half_is = shift_exact (lift - round) 64 (omega arith)

    pub points_in : {r : ℕ} → r ≡ block_points half b → r ≡ cond (leb round lift) (block_points (2 ^ (lift - round)) b) 0
    points_in e = rw (le-leb _ _ h) (e ∙ ap (λ m. block_points m b) half_is)

    pub points_past : half < 256 * b → 0 ≡ cond (leb round lift) (block_points (2 ^ (lift - round)) b) 0
    points_past l = points_in (block_least half b (omega arith))

-- where a point and its weight stand
pub point_fits : {y n from : ℕ} → y < n → n ≤ 256 → from ≤ 2 ^ 30 → from + y < 2 ^ 64
point_fits h k l = omega arith

pub entry_there : {y n : ℕ} → y < n → n ≤ 256 → 4 * y + 3 < 2048
entry_there h k = omega arith

pub beside_fits : {y n : ℕ} → y < n → n ≤ 256 → 256 + y < 2 ^ 64
beside_fits h k = omega arith

pub beside_there : {y n : ℕ} → y < n → n ≤ 256 → 4 * (256 + y) + 3 < 2048
beside_there h k = omega arith

module _ (n : ℕ) (f : ℕ → Elem) (t : List ℕ) {y : ℕ} (w : Weights n f t) (h : y < n) where
  pub weight_word : {r : List ℕ} → r ≡ words_at t y → r ≡ words_of (f y)
  weight_word e = e ∙ w.values y h

  pub weight_beside : {r : List ℕ} → r ≡ words_at t (256 + y) → r ≡ times_eleven (words_of (f y))
  weight_beside e = e ∙ w.beside y h

pub eleven_canonical : (w : List ℕ) {v : List ℕ} → v ≡ times_eleven w → Canonical v
unfolding times_eleven
eleven_canonical w e = rw e (record { w0 = below _ _ refl; w1 = below _ _ refl; w2 = below _ _ refl; w3 = omega arith })

eleven_again : (w : List ℕ) {v : List ℕ} → v ≡ times_eleven w → words_of (elem_of v) ≡ times_eleven w
unfolding times_eleven elem_of
eleven_again w e =
    ap (λ v. words_of (elem_of v)) e ∙ words_of_elem_of _ _ _ _ (below _ _ refl) (below _ _ refl) (below _ _ refl) (omega arith)

-- the loop that writes them, over plain variables
module _ (f : ℕ → Elem) where
  pub weighing_start : {t : List ℕ} → Weights 0 f t
  weighing_start = record { values = λ y h. absurd (omega arith); beside = λ y h. absurd (omega arith) }

  pub weighing_turn : {y n : ℕ} {t w v u r : List ℕ} → Weights y f t → y < n → n ≤ 256 → 4 * y + 3 < length t → 4 * (256 + y) + 3 < length u
      → w ≡ words_of (f y) → v ≡ times_eleven w → u ≡ put t y (elem_of w) → r ≡ put u (256 + y) (elem_of v) → Weights (y + 1) f r
  weighing_turn {y} {n} {t} {w} {v} {u} {r} s h k room room' ew ev eu er =
      record { values = λ i l. values i l (ℕ_discrete i y); beside = λ i l. beside i l (ℕ_discrete i y) }
    where
      written : words_at u y ≡ words_of (f y)
      written = ap (λ x. words_at x y) eu ∙ words_same t y (elem_of w) room ∙ ap words_of (elem_of_words _ ew)

      values : (i : ℕ) → i < y + 1 → Dec (i ≡ y) → words_at r i ≡ words_of (f i)
      values i l (yes e) = ap (λ x. words_at x i) er ∙ words_other u (256 + y) i (elem_of v) (λ q. omega arith) ∙ ap (words_at u) e ∙ written ∙ ap (λ j. words_of (f j)) (sym e)
      values i l (no d) =
          ap (λ x. words_at x i) er ∙ words_other u (256 + y) i (elem_of v) (λ q. omega arith) ∙ ap (λ x. words_at x i) eu ∙ words_other t y i (elem_of w) d
          ∙ s.values i (omega arith)

      beside : (i : ℕ) → i < y + 1 → Dec (i ≡ y) → words_at r (256 + i) ≡ times_eleven (words_of (f i))
      beside i l (yes e) =
          ap (λ j. words_at r (256 + j)) e ∙ ap (λ x. words_at x (256 + y)) er ∙ words_same u (256 + y) (elem_of v) room' ∙ eleven_again w ev
          ∙ ap times_eleven ew ∙ ap (λ j. times_eleven (words_of (f j))) (sym e)
      beside i l (no d) =
          ap (λ x. words_at x (256 + i)) er ∙ words_other u (256 + y) (256 + i) (elem_of v) (λ q. d (omega arith)) ∙ ap (λ x. words_at x (256 + i)) eu
          ∙ words_other t y (256 + i) (elem_of w) (λ q. omega arith) ∙ s.beside i (omega arith)

  pub weighing_end : {y n : ℕ} {t : List ℕ} → y ≤ n → n ≤ y → Weights y f t → Weights n f t
  weighing_end h k s = record { values = λ i l. s.values i (omega arith); beside = λ i l. s.beside i (omega arith) }

-- weights that stand in a table are those of the elements there
pub weights_there : {n : ℕ} {f : ℕ → Elem} {t : List ℕ} → Weights n f t → (y : ℕ) → y < n → elem_at t y ≡ f y
weights_there {n} {f} {t} w y h = sym (elem_of_words_at t y) ∙ elem_of_words (f y) (w.values y h)

pub weights_own : {n : ℕ} {f : ℕ → Elem} {t : List ℕ} → Weights n f t → Weights n (elem_at t) t
weights_own w =
    record {
      values = λ y h. w.values y h ∙ ap words_of (sym (weights_there w y h));
      beside = λ y h. w.beside y h ∙ ap (λ e. times_eleven (words_of e)) (sym (weights_there w y h));
    }
