-- The loop of a row, over plain variables: the terms of a turn, and the sum at the end.
use Rattle.std.proofs.Common.{◌≡◌, ℕ, ◌+◌, ◌*◌, ◌/◌, ◌%◌, ◌^◌, ◌<◌, ◌≤◌, true, List, get_or, sym, ap, ◌∙◌, ap₂, arith}
use Rattle.algebra.specs.Sum.{sum}
use Rattle.algebra.proofs.Sums.{sum-add, sum_split}
use Rattle.field.specs.Word.{word_of}
use Rattle.field.specs.Element.{Elem, F, ◌⊕◌, ◌⊗◌, elem_of, words_of}
use Rattle.field.specs.Canonical.{Canonical}
use Rattle.field.specs.Slice.{canonical_words}
use Rattle.field.proofs.Embedding.{elem_eq}
use Rattle.field.proofs.Slices.{canonical_below}
use Rattle.tables.proofs.Indices.{grid_div, grid_mod}
use Rattle.prover.specs.RowSum.{from_words, table_index, coefficients, row_sum}
use Rattle.prover.specs.Products.{quarters_of, dot_of}
use Rattle.prover.proofs.Numbers.{four, elem-sum, elem_multiple}

pub canonical_quarters : (xs : List ℕ) (at i m : ℕ) {e : List ℕ} → canonical_words xs ≡ true → e ≡ quarters_of xs at i m → Canonical e
unfolding quarters_of
canonical_quarters xs at i m h q =
    rw q (record { w0 = canonical_below xs h _; w1 = canonical_below xs h _; w2 = canonical_below xs h _; w3 = canonical_below xs h _ })

-- the entries that a turn reads
pub entry_first : {g m : ℕ} → g < m → m ≤ 256 → g < 3328
entry_first h k = omega arith

pub entry_index : {i g m : ℕ} → g < m → m ≤ 256 → i ≤ 3072 → g + i < 3328
entry_index h k l = omega arith

pub entry_fits : {n : ℕ} → n < 3328 → n < 2 ^ 64
entry_fits h = omega arith

-- where the elements of quarter t stand
placed : (m t g : ℕ) {i : ℕ} → g < m → i ≡ g + m * t → table_index m i ≡ 256 * t + g
unfolding table_index
placed m t g h e = ap (λ i. 256 * (i / m) + i % m) e ∙ ap₂ (λ a b. 256 * a + b) (grid_div m g t h) (grid_mod m g t h)

-- the four terms of a turn, m apart
module _ (q : List ℕ) (at : ℕ) (k : List ℕ) (m : ℕ) where
  abbrev T : ℕ → Elem
  T i = from_words q (i + at) ⊗ coefficients m k i

  abbrev pub quarter : ℕ → Elem
  quarter g = T g ⊕ T (m + g) ⊕ T (m + m + g) ⊕ T (m + m + m + g)

  quarter-sum : sum F m quarter ≡ sum F (4 * m) T
  quarter-sum =
      sum-add F m (λ g. T g ⊕ T (m + g) ⊕ T (m + m + g)) (λ g. T (m + m + m + g))
      ∙ ap (λ x. x ⊕ sum F m (λ g. T (m + m + m + g)))
      (sum-add F m (λ g. T g ⊕ T (m + g)) (λ g. T (m + m + g))
      ∙ ap (λ x. x ⊕ sum F m (λ g. T (m + m + g))) (sum-add F m T (λ g. T (m + g)) ∙ sym (sum_split F m m T))
      ∙ sym (sum_split F (m + m) m T))
      ∙ sym (sum_split F (m + m + m) m T) ∙ ap (λ n. sum F n T) {x = m + m + m + m} {y = 4 * m} (omega arith)

  pub row_is : {d : List ℕ} → d ≡ words_of (sum F m quarter) → d ≡ words_of (row_sum q at (coefficients m k) (4 * m))
  unfolding row_sum
  row_is e = e ∙ ap words_of quarter-sum

  abbrev P : ℕ → ℕ → ℕ
  P a b = get_or q a 0 * get_or k b 0

  -- the products of one term
  term_words : (i : ℕ) {a b c d e : ℕ} → a ≡ i + at → b ≡ table_index m i → c ≡ table_index m i + 1024 → d ≡ table_index m i + 2048 → e ≡ table_index m i + 3072 → elem_of (four (P a b) (P a c) (P a d) (P a e)) ≡ T i
  unfolding elem_of coefficients
  term_words i {a} {b} {c} {d} {e} h f0 f1 f2 f3 =
      elem_multiple (get_or q a 0) (get_or k b 0) (get_or k c 0) (get_or k d 0) (get_or k e 0) ∙ ap₂ ◌⊗◌ (ap (from_words q) h) (elem_eq (word f0) (word f1) (word f2) (word f3))
    where
      word : {x y : ℕ} → x ≡ y → word_of (get_or k x 0) ≡ word_of (get_or k y 0)
      word h = ap (λ n. word_of (get_or k n 0)) h

  module _ (g : ℕ) where
    abbrev total : ℕ → ℕ
    total b = P (at + g) b + P (at + g + m) (b + 256) + P (at + g + m + m) (b + 512) + P (at + g + m + m + m) (b + 768)

    dots : {e : List ℕ} {x : ℕ} (b : ℕ) → e ≡ quarters_of q at g m → x ≡ dot_of e k b → x ≡ total b
    unfolding quarters_of
    dots b ee ex = ex ∙ ap (λ e. dot_of e k b) ee

    totals : g < m → elem_of (four (total g) (total (g + 1024)) (total (g + 2048)) (total (g + 3072))) ≡ quarter g
    totals h =
        let h0 : table_index m g ≡ 256 * 0 + g = placed m 0 g h (omega arith) in
        let h1 : table_index m (m + g) ≡ 256 * 1 + g = placed m 1 g h (omega arith) in
        let h2 : table_index m (m + m + g) ≡ 256 * 2 + g = placed m 2 g h (omega arith) in
        let h3 : table_index m (m + m + m + g) ≡ 256 * 3 + g = placed m 3 g h (omega arith) in
        elem-sum _ _ _ _ _ _ _ _
        ∙ ap₂ ◌⊕◌
        (elem-sum _ _ _ _ _ _ _ _
        ∙ ap₂ ◌⊕◌
        (elem-sum _ _ _ _ _ _ _ _
        ∙ ap₂ ◌⊕◌ (term_words g (omega arith) (omega arith) (omega arith) (omega arith) (omega arith)) (term_words (m + g) (omega arith) (omega arith) (omega arith) (omega arith) (omega arith)))
        (term_words (m + m + g) (omega arith) (omega arith) (omega arith) (omega arith) (omega arith)))
        (term_words (m + m + m + g) (omega arith) (omega arith) (omega arith) (omega arith) (omega arith))

    pub quarter_words : {e : List ℕ} {x0 x1 x2 x3 : ℕ} → g < m → e ≡ quarters_of q at g m → x0 ≡ dot_of e k g → x1 ≡ dot_of e k (g + 1024) → x2 ≡ dot_of e k (g + 2048) → x3 ≡ dot_of e k (g + 3072)
        → elem_of (four x0 x1 x2 x3) ≡ quarter g
    quarter_words {e} {x0} {x1} {x2} {x3} l ee d0 d1 d2 d3 =
        let h0 : x0 ≡ total g = dots g ee d0 in
        let h1 : x1 ≡ total (g + 1024) = dots (g + 1024) ee d1 in
        let h2 : x2 ≡ total (g + 2048) = dots (g + 2048) ee d2 in
        let h3 : x3 ≡ total (g + 3072) = dots (g + 3072) ee d3 in
        let h : four x0 x1 x2 x3 ≡ four (total g) (total (g + 1024)) (total (g + 2048)) (total (g + 3072)) = cc in
        ap elem_of h ∙ totals l
