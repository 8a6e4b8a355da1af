-- The turns of the spread sums: an entry from the one M before it, and from the coefficient that enters or leaves.
use Rattle.std.proofs.Common.{◌≡◌, ℕ, ◌+◌, ◌-◌, ◌*◌, ◌^◌, ◌<◌, ◌≤◌, List, length, sym, ap, ◌∙◌, ap₂, arith}
use Rattle.algebra.proofs.RingLaws as Laws
use Rattle.algebra.proofs.Powers.{two_pow-pos, two_pow-add}
use Rattle.field.specs.Canonical.{Canonical}
use Rattle.field.specs.Element.{Elem, F, ◌⊕◌, ◌⊖◌, elem_of, words_of}
use Rattle.field.specs.Slice.{elem_at, words_at, put}
use Rattle.field.proofs.Elements.{elem_of_words, canonical_words_lem}
use Rattle.field.proofs.ElementWords.{elem_of_words_at, elem_at_words}
use Rattle.tables.specs.Window.{below}
use Rattle.tables.specs.Shifted.{shifted}
use Rattle.tables.proofs.Products.{below_in, below_out}
use Rattle.tables.proofs.Shifts.{shifted_early, shifted_at, shifted_before}
use Rattle.tables.proofs.GeometricProducts.{spread-step, spread_late}
use Rattle.prover.specs.Gained.{Table}
use Rattle.prover.specs.Transforms.{spread_f}
use Rattle.prover.specs.Written.{Written}
use Rattle.prover.proofs.Numbers.{four}
use Rattle.prover.proofs.ColumnBlocks.{zero_words}
use Rattle.prover.proofs.Writing.{first_turn_lem, first_words_lem, written_end, own_words}
use Rattle.prover.proofs.ElementTables.{table_entry}

-- what `back` gives
pub back_none : (xs : List ℕ) (j d : ℕ) → j < d → four 0 0 0 0 ≡ words_of (shifted F d (elem_at xs) j)
back_none xs j d h = zero_words ∙ ap words_of (sym (shifted_early F d (elem_at xs) j h))

pub back_there : (xs : List ℕ) (j d : ℕ) {r : List ℕ} → d ≤ j → Canonical (words_at xs (j - d)) → r ≡ words_at xs (j - d) → r ≡ words_of (shifted F d (elem_at xs) j)
back_there xs j d h c e = e ∙ own_words xs (j - d) c ∙ ap words_of (sym (shifted_at F d (elem_at xs) j h))

-- a slice whose first n elements are written
module _ {old : List ℕ} {n : ℕ} {f : ℕ → Elem} {xs : List ℕ} (w : Written old 0 n f xs) where
  pub written_back : (d : ℕ) → 0 < d → d ≤ n → Canonical (words_at xs (n - d))
  written_back d p h = canonical_words_lem _ (first_words_lem w (n - d) (omega arith))

  same_back : (d : ℕ) → 0 < d → shifted F d (elem_at xs) n ≡ shifted F d f n
  same_back d p = shifted_before F d (elem_at xs) f n p (λ i h. elem_at_words xs i (f i) (first_words_lem w i h))

module _ (l o : ℕ) (le : o ≤ l) where
  abbrev M : ℕ
  M = 2 ^ o

  abbrev N : ℕ
  N = 2 ^ o * 2 ^ (l - o)

  whole : N ≡ 2 ^ l
  whole = sym (two_pow-add o (l - o)) ∙ ap (λ n. 2 ^ n) {x = o + (l - o)} {y = l} (omega arith)

  module _ (a : List ℕ) where
    abbrev e : ℕ → Elem
    e = spread_f l o (elem_at a)

    -- below N nothing is taken off
    spread_low : (j : ℕ) → j < 2 ^ l → e j ≡ elem_at a j ⊕ shifted F M e j
    spread_low j h =
        spread-step F M (2 ^ (l - o)) (elem_at a) j
        ∙ ap₂ (λ x y. x ⊕ shifted F M e j ⊖ y) (below_in F N (elem_at a) j (omega (arith, whole))) (shifted_early F N (below F N (elem_at a)) j (omega (arith, whole)))
        ∙ ap (λ x. elem_at a j ⊕ shifted F M e j ⊕ x) (Laws.neg-zero F) ∙ F.add_zero _

    -- from N on nothing is added
    spread-high : (j : ℕ) → j < 2 ^ l → e (2 ^ l + j) ≡ shifted F M e (2 ^ l + j) ⊖ elem_at a j
    spread-high j h =
        spread-step F M (2 ^ (l - o)) (elem_at a) (2 ^ l + j)
        ∙ ap₂ (λ x y. x ⊕ shifted F M e (2 ^ l + j) ⊖ y) (below_out F N (elem_at a) (2 ^ l + j) (omega (arith, whole))) taken
        ∙ ap (λ x. x ⊖ elem_at a j) (Laws.zero-add F _)
      where
        taken : shifted F N (below F N (elem_at a)) (2 ^ l + j) ≡ elem_at a j
        taken =
            shifted_at F N (below F N (elem_at a)) (2 ^ l + j) (omega (arith, whole)) ∙ ap (below F N (elem_at a)) {x = 2 ^ l + j - N} {y = j} (omega (arith, whole))
            ∙ below_in F N (elem_at a) j (omega (arith, whole))

    pub spread_turn : (old : List ℕ) (j : ℕ) (mid : List ℕ) {order rows : ℕ} {x p y new : List ℕ} → Written old 0 j e mid → j < rows → length old ≡ 4 * (2 * 2 ^ l) → order ≡ 2 ^ o → rows ≡ 2 ^ l
        → x ≡ words_at a j → p ≡ words_of (shifted F order (elem_at mid) j) → y ≡ words_of (elem_of x ⊕ elem_of p) → new ≡ put mid j (elem_of y) → Written old 0 (j + 1) e new
    spread_turn old j mid {order} {rows} {x} {p} {y} w lt size eo er ex ep ey en =
        first_turn_lem w (omega arith)
        (elem_of_words _ ey ∙ ap₂ ◌⊕◌ (ap elem_of ex ∙ elem_of_words_at a j) (elem_of_words _ ep ∙ ap (λ n. shifted F n (elem_at mid) j) eo ∙ same_back w M (two_pow-pos o)) ∙ sym (spread_low j (omega arith))) en

    pub spread_turn_high : (old : List ℕ) (j : ℕ) (mid : List ℕ) {order rows : ℕ} {p x y new : List ℕ} → Written old 0 (rows + j) e mid → j < rows → length old ≡ 4 * (2 * 2 ^ l) → order ≡ 2 ^ o
        → rows ≡ 2 ^ l → p ≡ words_of (shifted F order (elem_at mid) (rows + j)) → x ≡ words_at a j → y ≡ words_of (elem_of p ⊖ elem_of x) → new ≡ put mid (rows + j) (elem_of y)
        → Written old 0 (rows + (j + 1)) e new
    spread_turn_high old j mid {order} {rows} {p} {x} {y} {new} w lt size eo er ep ex ey en =
        written_end {i = rows + j + 1} {n = rows + (j + 1)} (omega arith) (omega arith)
        (first_turn_lem w (omega arith)
        (elem_of_words _ ey
        ∙ ap₂ ◌⊖◌ (elem_of_words _ ep ∙ ap (λ n. shifted F n (elem_at mid) (rows + j)) eo ∙ same_back w M (two_pow-pos o)) (ap elem_of ex ∙ elem_of_words_at a j)
        ∙ ap (λ n. shifted F M e (n + j) ⊖ elem_at a j) er ∙ sym (spread-high j (omega arith)) ∙ ap (λ n. e (n + j)) (sym er)) en)

    pub spread-ends : {xs : List ℕ} → Table (2 * 2 ^ l) e xs → (i : ℕ) → 2 * 2 ^ l - 2 ^ o ≤ i → i < 2 * 2 ^ l → elem_at xs i ≡ F.zero
    spread-ends t i g h = table_entry t i h ∙ spread_late F M (2 ^ (l - o)) (elem_at a) i (omega (arith, whole))
