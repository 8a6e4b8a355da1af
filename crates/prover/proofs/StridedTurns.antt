-- The loop of a strided sum, over plain variables.
use Rattle.std.proofs.Common.{◌≡◌, ℕ, ◌+◌, ◌*◌, ◌<◌, ◌≤◌, List, length, get_or, sym, refl, ap, ◌∙◌, ap₂, arith}
use native.Mathlib.Nat
use Rattle.field.specs.Element.{Elem, ◌⊕◌, ◌⊗◌, elem_of, words_of}
use Rattle.field.specs.Canonical.{Canonical}
use Rattle.field.specs.Slice.{elem_at, words_at, put}
use Rattle.field.proofs.Elements.{elem_of_words}
use Rattle.field.proofs.ElementWords.{elem_of_words_at}
use Rattle.prover.specs.Words.{CanonicalFrom}
use Rattle.prover.specs.Written.{Written}
use Rattle.prover.specs.RowSum.{from_words}
use Rattle.prover.specs.StridedSum.{strided_sum}
use Rattle.prover.proofs.Numbers.{four, elem_multiple}
use Rattle.prover.proofs.Writing.{first_turn_lem}

-- the words that a turn reads are there
pub inside : (at stride m n y : ℕ) → y < m → at + stride * m < n + stride → at + stride * y < n
inside at stride m n y h k = omega (arith, Nat.mul-le-mul_left stride h, Nat.mul-suc stride y)

abbrev pub term : List ℕ → ℕ → ℕ → List ℕ → ℕ → Elem
term q at stride t y = from_words q (at + stride * y) ⊗ elem_at t y

module _ (q : List ℕ) (at stride : ℕ) (t : List ℕ) (y : ℕ) where
  abbrev x : ℕ
  x = get_or q (at + stride * y) 0

  pub term_words : {e : List ℕ} {x0 x1 x2 x3 : ℕ} → e ≡ words_at t y → x0 ≡ x * get_or e 0 0 → x1 ≡ x * get_or e 1 0 → x2 ≡ x * get_or e 2 0 → x3 ≡ x * get_or e 3 0
      → elem_of (four x0 x1 x2 x3) ≡ term q at stride t y
  unfolding elem_of
  term_words {e} {x0} {x1} {x2} {x3} ee d0 d1 d2 d3 =
      ap elem_of given ∙ elem_multiple x (get_or e 0 0) (get_or e 1 0) (get_or e 2 0) (get_or e 3 0) ∙ ap (λ z. from_words q (at + stride * y) ⊗ z) (same ∙ ap elem_of ee ∙ elem_of_words_at t y)
    where
      given : four x0 x1 x2 x3 ≡ four (x * get_or e 0 0) (x * get_or e 1 0) (x * get_or e 2 0) (x * get_or e 3 0)
      given = cc

      same : elem_of (four (get_or e 0 0) (get_or e 1 0) (get_or e 2 0) (get_or e 3 0)) ≡ elem_of e
      same = refl

-- entry i with the sum of its row gained
abbrev pub row_gained : List ℕ → List ℕ → ℕ → ℕ → List ℕ → ℕ → ℕ → Elem
row_gained acc q at stride t m i = elem_at acc i ⊕ strided_sum q (at + i) stride (elem_at t) m

-- row after row: the entries from i on are as they were
module _ (acc q : List ℕ) (at stride rows : ℕ) (t : List ℕ) (m i : ℕ) (mid : List ℕ) (w : Written acc 0 i (row_gained acc q at stride t m) mid) (lt : i < rows) where
  untouched : words_at mid i ≡ words_at acc i
  untouched = w.after i (omega arith)

  pub row_canonical : {old : List ℕ} → CanonicalFrom acc 0 rows → old ≡ words_at mid i → Canonical old
  row_canonical h e = rw (e ∙ untouched ∙ ap (words_at acc) (sym (Nat.zero-add i))) (h i lt)

  pub row_turn : {e old x new : List ℕ} → 4 * rows ≤ length acc → e ≡ words_of (strided_sum q (at + i) stride (elem_at t) m) → old ≡ words_at mid i → x ≡ words_of (elem_of old ⊕ elem_of e) → new ≡ put mid i (elem_of x)
      → Written acc 0 (i + 1) (row_gained acc q at stride t m) new
  row_turn {e} {old} {x} room ee eo ex en =
      first_turn_lem w (omega arith)
      (elem_of_words _ ex ∙ ap₂ ◌⊕◌ (ap elem_of (eo ∙ untouched) ∙ elem_of_words_at acc i) (elem_of_words _ ee)) en
