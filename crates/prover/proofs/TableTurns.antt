-- The loop that makes the rotation table: its turn, over plain variables.
use Rattle.std.proofs.Common.{◌≡◌, ℕ, ◌+◌, ◌*◌, ◌%◌, ◌^◌, ◌<◌, ◌≤◌, min, List, length, ap, ◌∙◌, ap₂, arith}
use Rattle.algebra.proofs.Powers.{shift_exact}
use Rattle.field.specs.Element.{Elem, ◌⊕◌, ◌⊖◌, ◌⊗◌, elem_of, words_of}
use Rattle.field.specs.Canonical.{Canonical}
use Rattle.field.specs.Slice.{words_at, put}
use Rattle.field.proofs.Elements.{elem_of_words}
use Rattle.field.proofs.ElementWords.{elem_of_words_at}
use Rattle.tables.specs.Index.{before}
use Rattle.tables.proofs.Indices.{before_small}
use Rattle.prover.specs.Words.{CanonicalFrom}
use Rattle.prover.specs.Written.{Written, elems_from}
use Rattle.prover.specs.Rotated.{rotated}
use Rattle.prover.proofs.Writing.{written_turn}

pub canonical_from : (xs : List ℕ) (at n i : ℕ) {r : List ℕ} → CanonicalFrom xs at n → i < n → r ≡ words_at xs (at + i) → Canonical r
canonical_from xs at n i h l e = rw e (h i l)

element-from : (xs : List ℕ) (at i : ℕ) {r : List ℕ} → r ≡ words_at xs (at + i) → elem_of r ≡ elems_from xs at i
element-from xs at i e = ap elem_of e ∙ elem_of_words_at xs (at + i)

-- the number of entries
pub rows_are : (n : ℕ) → n ≤ 20 → 1 * 2 ^ n % 4294967296 ≡ 2 ^ n
rows_are n h = shift_exact n 32 (omega arith)

pub entry-inside : {x rows m : ℕ} → x < rows → rows ≡ m → x < m
entry-inside h e = omega arith

pub at_most : {x rows m : ℕ} → x ≤ rows → rows ≡ m → x ≤ m
at_most h e = omega arith

pub at_least : {x rows m : ℕ} → rows ≤ x → rows ≡ m → m ≤ x
at_least h e = omega arith

module _ (n : ℕ) (few : n ≤ 20) where
  -- the entry before
  before_is : (x : ℕ) {r : ℕ} → r ≡ before (2 ^ min n 31) x → r ≡ before (2 ^ n) x
  before_is x e = e ∙ ap (λ m. before (2 ^ m) x) {x = min n 31} {y = n} (omega arith)

  pub before_inside : (x : ℕ) {r : ℕ} → x < 2 ^ n → r ≡ before (2 ^ min n 31) x → r < 2 ^ n
  before_inside x h e = rw (before_is x e) (before_small (2 ^ n) x h)

  pub rotate_turn : (eq : List ℕ) (at : ℕ) (a b : Elem) {old : List ℕ} {x prev : ℕ} {t e f d g y new : List ℕ} → Written old at x (rotated (2 ^ n) (elems_from eq at) a b) t → x < 2 ^ n → 4 * (at + 2 ^ n) ≤ length old
      → e ≡ words_at eq (at + x) → prev ≡ before (2 ^ min n 31) x → f ≡ words_at eq (at + prev) → d ≡ words_of (elem_of f ⊖ elem_of e) → g ≡ words_of (elem_of e ⊗ a) → y ≡ words_of (elem_of g ⊕ elem_of d ⊗ b)
      → new ≡ put t (at + x) (elem_of y) → Written old at (x + 1) (rotated (2 ^ n) (elems_from eq at) a b) new
  unfolding rotated
  rotate_turn eq at a b {old} {x} {prev} {t} {e} {f} {d} {g} s l room re p rf ed eg ey en =
      written_turn s (omega arith) (elem_of_words _ ey ∙ ap₂ (λ u v. u ⊕ v ⊗ b) (elem_of_words _ eg ∙ ap (λ z. z ⊗ a) here) (elem_of_words _ ed ∙ ap₂ (λ u v. u ⊖ v) there here)) en
    where
      here : elem_of e ≡ elems_from eq at x
      here = element-from eq at x re

      there : elem_of f ≡ elems_from eq at (before (2 ^ n) x)
      there = element-from eq at prev rf ∙ ap (elems_from eq at) (before_is x p)
