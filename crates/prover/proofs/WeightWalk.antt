-- The walk over the columns that folds their weights, over plain variables.
use Rattle.std.proofs.Common.{◌≡◌, ℕ, ◌+◌, ◌-◌, ◌*◌, ◌/◌, ◌%◌, ◌^◌, ◌<◌, ◌≤◌, cond, leb, List, length, sym, ap, ◌∙◌, ap₂, arith, le-leb}
use native.Mathlib.Nat
use borrow.Author.Tests.{lt-leb}
use Rattle.algebra.specs.Multilinear.{bit_factor}
use Rattle.algebra.proofs.Powers.{shift_exact, two_pow-add}
use Rattle.field.specs.Element.{Elem, F, ◌⊗◌, elem_of, words_of}
use Rattle.field.specs.Slice.{elem_at, elem_words, put}
use Rattle.field.proofs.Elements.{elem_of_words}
use Rattle.field.proofs.Slices.{length-put}
use Rattle.field.proofs.ElementWords.{elem_at_same}
use Rattle.layout.specs.declared.columns.Column.{Column}
use Rattle.layout.specs.Placing.{row_of}
use Rattle.layout.specs.Columns.{column_at}
use Rattle.weights.specs.RunOf.{run_of}
use Rattle.prover.specs.Given.{work}
use Rattle.prover.specs.Written.{Written}
use Rattle.prover.specs.OwnSum.{tables_of, folded_tables}
use Rattle.prover.proofs.Writing.{written_turn, written_end, written_whole}

-- one column's weight
module _ (l n j h s : ℕ) (u w : List ℕ) where
  abbrev pub next_weight : Elem
  next_weight = cond (leb j (h - l)) (elem_of w) (elem_of w ⊗ bit_factor F (elem_of u) (row_of l n s / 2 ^ l / 2 ^ (j - 1) % 2))

  pub weight_kept : (lift : ℕ) {r : List ℕ} → lift ≡ h - l → j ≤ lift → r ≡ words_of (elem_of w) → r ≡ words_of next_weight
  weight_kept lift is k e = e ∙ ap (λ t. words_of (cond t (elem_of w) (elem_of w ⊗ bit_factor F (elem_of u) (row_of l n s / 2 ^ l / 2 ^ (j - 1) % 2)))) (sym (le-leb j (h - l) (omega arith)))

  pub weight_bit : (lift : ℕ) {f r : List ℕ} → lift ≡ h - l → lift < j → l + n ≤ 24 → 1 ≤ j
      → f ≡ words_of (bit_factor F (elem_of u) (s % (1 * 2 ^ (l + n) % 18446744073709551616) / 2 ^ (l + j - 1) % 2)) → r ≡ words_of (elem_of w ⊗ elem_of f) → r ≡ words_of next_weight
  weight_bit lift is k small from ef er =
      er ∙ ap (λ z. words_of (elem_of w ⊗ z)) (elem_of_words _ ef ∙ ap (λ b. bit_factor F (elem_of u) (b % 2)) row)
      ∙ ap (λ t. words_of (cond t (elem_of w) (elem_of w ⊗ bit_factor F (elem_of u) (row_of l n s / 2 ^ l / 2 ^ (j - 1) % 2)))) (sym (lt-leb j (h - l) (omega arith)))
    where
      row : s % (1 * 2 ^ (l + n) % 18446744073709551616) / 2 ^ (l + j - 1) ≡ row_of l n s / 2 ^ l / 2 ^ (j - 1)
      row =
          ap₂ (λ a b. s % a / b) (shift_exact (l + n) 64 (omega arith)) (ap (λ m. 2 ^ m) {x = l + j - 1} {y = l + (j - 1)} (omega arith) ∙ two_pow-add l (j - 1))
          ∙ sym (Nat.div-div-eq-div-mul (row_of l n s) (2 ^ l) (2 ^ (j - 1)))

  pub row_positive : l + n ≤ 24 → 1 * 2 ^ (l + n) % 18446744073709551616 ≡ 2 ^ (l + n)
  row_positive small = shift_exact (l + n) 64 (omega arith)

pub put-length : (xs : List ℕ) (i : ℕ) (x : Elem) {ys : List ℕ} → ys ≡ put xs i x → length ys ≡ length xs
put-length xs i x e = ap length e ∙ length-put xs i x

-- the first k columns' weights are written
module _ (l n first : ℕ) (lists : List ℕ) (j : ℕ) (u old : List ℕ) (point lambda q eq rot : List ℕ) where
  abbrev pub next : ℕ → Elem
  next = (folded_tables (run_of l n first lists point lambda) j (elem_of u) (tables_of l lists (work q eq rot old))).weight

  next_is : (k : ℕ) (c : Column) (w : List ℕ) → c ≡ column_at l n first lists k → elem_of w ≡ elem_at old k → next_weight l n j c.log c.start u w ≡ next k
  unfolding folded_tables tables_of
  next_is k c w ec ew =
      ap₂ (λ (x : Column) (e : Elem). cond (leb j (x.log - l)) e (e ⊗ bit_factor F (elem_of u) (row_of l n x.start / 2 ^ l / 2 ^ (j - 1) % 2))) ec ew

  pub weights_turn : (k columns : ℕ) {mid w e new : List ℕ} {c : Column} → Written old 0 k next mid → k < columns → length old ≡ 4 * columns → c ≡ column_at l n first lists k
      → w ≡ words_of (elem_at mid k) → e ≡ words_of (next_weight l n j c.log c.start u w) → new ≡ put mid k (elem_of e) → Written old 0 (k + 1) next new
  weights_turn k columns {mid} {w} {e} {new} {c} s h size ec ew ee en =
      written_turn s (omega arith) (elem_of_words _ ee ∙ next_is k c w ec (elem_of_words _ ew ∙ elem_at_same mid old k k (s.after k (omega arith))))
      (en ∙ ap (λ i. put mid i (elem_of e)) {x = k} {y = 0 + k} (omega arith))

  pub weights_end : (k columns : ℕ) {new : List ℕ} → k ≤ columns → columns ≤ k → Written old 0 k next new → length old ≡ 4 * columns → new ≡ elem_words columns next
  weights_end k columns a b s size = written_whole (written_end a b s) size
