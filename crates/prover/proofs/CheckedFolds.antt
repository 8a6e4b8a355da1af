-- Rows folded block after block, each block scanned before it is folded: the loop's turns over plain variables.
use Rattle.std.proofs.Common.{◌≡◌, ℕ, ◌+◌, ◌-◌, ◌*◌, ◌/◌, ◌^◌, ◌<◌, ◌≤◌, min, Bool, true, false, ◌⊎◌, List, length, get_or, take, drop, sym, refl, ap, ◌∙◌, subst, inl, inr, true≢false, arith, length-drop, length-take}
use native.Mathlib.Nat
use native.Mathlib.Decide.{dec_lt}
use Rattle.algebra.proofs.Sums.{sum_cong_below}
use Rattle.field.specs.Word.{p, word_of}
use Rattle.field.specs.Element.{Elem, F, ◌⊗◌, elem_of, from_word}
use Rattle.field.specs.Slice.{words_at, canonical_words}
use Rattle.field.proofs.Slices.{canonical_below, canonical_all}
use Rattle.prover.specs.Words.{Words}
use Rattle.prover.specs.Written.{Written}
use Rattle.prover.specs.Checked.{Checked, Steps}
use Rattle.prover.specs.RowSum.{row_sum}
use Rattle.prover.proofs.Numbers.{four, reduced}
use Rattle.prover.proofs.Parts.{part_word}
use Rattle.prover.proofs.Writing.{written_none, written_next, written_cong, written_end}
use Rattle.prover.proofs.BlockLaws.{blocks_is}
use Rattle.prover.proofs.ZeroScan.{zero_words}

-- one scan, then the fold
module _ {q old new : List ℕ} {rows : ℕ} {f : ℕ → Elem} where
  pub checked_bad : {ok r : Bool} → ok ≡ canonical_words q → ok ≡ false → r ≡ false → new ≡ old → Checked q old rows f r new
  checked_bad e h g k = record { says = g ∙ sym h ∙ e; done = λ t. absurd (true≢false (sym t ∙ g)); kept = λ t. k }

  pub checked_fine : {ok r : Bool} → ok ≡ canonical_words q → ok ≡ true → r ≡ true → Written old 0 rows f new → Checked q old rows f r new
  checked_fine e h g k = record { says = g ∙ sym h ∙ e; done = λ t. k; kept = λ t. absurd (true≢false (sym g ∙ t)) }

pub checked_cong : {q old new : List ℕ} {rows : ℕ} {f g : ℕ → Elem} {r : Bool} → Checked q old rows f r new → ((y : ℕ) → y < rows → f y ≡ g y) → Checked q old rows g r new
checked_cong c e = record { says = c.says; done = λ t. written_cong (c.done t) e; kept = c.kept }

-- row y of n words, added up by the kernels k
abbrev pub row_of : ℕ → (ℕ → Elem) → List ℕ → ℕ → Elem
row_of n k xs y = row_sum xs (n * y) k n

-- the block of m rows from row y on
module _ (q : List ℕ) (n y m : ℕ) where
  abbrev pub block : List ℕ
  block = take (n * (y + m) - n * y) (drop (n * y) q)

  block_word : (i : ℕ) → i < n * m → get_or block i 0 ≡ get_or q (n * y + i) 0
  block_word i h = part_word q (n * y) (n * (y + m) - n * y) i (omega (arith, Nat.mul-add n y m))

  pub block_row : (k : ℕ → Elem) (i : ℕ) → i < m → row_of n k block i ≡ row_of n k q (y + i)
  unfolding row_sum
  block_row k i h =
      sum_cong_below F n (λ j l.
      ap (λ x. from_word (word_of x) ⊗ k j)
      (block_word (j + n * i) (omega (arith, Nat.mul-le-mul_left {m = i + 1} {n = m} n (omega arith), Nat.mul-add n i 1))
      ∙ ap (λ x. get_or q x 0) {x = n * y + (j + n * i)} {y = j + n * (y + i)} (omega (arith, Nat.mul-add n y i))))

  module _ (rows : ℕ) (size : length q ≡ n * rows) (inside : y + m ≤ rows) where
    pub block_end : (n * y ≤ n * (y + m)) × (n * (y + m) ≤ length q)
    block_end = (Nat.mul-le-mul_left n (omega arith), omega (arith, Nat.mul-le-mul_left {m = y + m} {n = rows} n inside))

    block-length : length block ≡ n * m
    block-length = length-take (n * (y + m) - n * y) (drop (n * y) q) ∙ (let d : length (drop (n * y) q) ≡ length q - n * y = length-drop (n * y) q in omega (arith, block_end, Nat.mul-add n y m))

    pub block_words : canonical_words block ≡ true → Words block (n * m)
    block_words h = record { room = omega (arith, block-length); canonical = h }

    -- a block of a slice of words below p is one
    pub block_bad : canonical_words block ≡ false → canonical_words q ≡ false
    block_bad h = by (canonical_words q) refl
      where
        by : (t : Bool) → canonical_words q ≡ t → canonical_words q ≡ false
        by false e = e
        by true e =
            absurd (true≢false (sym (canonical_all block (λ i l. subst (λ x. x < p) (sym (block_word i (omega (arith, block-length)))) (canonical_below q e (n * y + i)))) ∙ h))

-- a block of 4,096 words has a row
pub step-some : (n : ℕ) → 64 ≤ n → n ≤ 1024 → 1 ≤ 4096 / n
step-some n h k = (Nat.le-div_iff_mul-le {k = n} {x = 1} {y = 4096} (omega arith)).1 (omega arith)

-- the rows of the next block
pub least_inside : (step : ℕ) {rows y m : ℕ} → y < rows → m ≡ min (rows - y) step → y + m ≤ rows
least_inside step l e = omega arith

pub least_fits : (step : ℕ) {rows y m : ℕ} → y < rows → m ≡ min (rows - y) step → rows < 2 ^ 64 → y + m < 2 ^ 64
least_fits step l e h = omega arith

pub least_less : (old : List ℕ) {rows step y m : ℕ} → Steps old rows step → y < rows → m ≡ min (rows - y) step → rows - (y + m) < rows - y
least_less old (inl s) l e = omega arith
least_less old (inr s) l e = omega arith

-- the rows before row y are done, `step` of them at a time; so there is a second block only where all are more than `step`
pub record Before (q : List ℕ) (n : ℕ) (k : ℕ → Elem) (old : List ℕ) (rows step y : ℕ) (out : List ℕ) : Type 0 where
  pub bound : y ≤ rows
  pub small : (i : ℕ) → i < n * y → get_or q i 0 < p
  pub written : Written old 0 y (row_of n k q) out
  pub later : y < rows → (y ≡ 0) ⊎ (step ≤ y)

module _ (q : List ℕ) (n : ℕ) (k : ℕ → Elem) (old : List ℕ) (rows step : ℕ) where
  pub before_start : Before q n k old rows step 0 old
  before_start = record { bound = omega arith; small = λ i h. absurd (omega (arith, Nat.mul-zero n)); written = written_none old 0 _; later = λ h. inl refl }

  pub before_turn : {y m : ℕ} {mid new : List ℕ} → Before q n k old rows step y mid → y < rows → m ≡ min (rows - y) step → canonical_words (block q n y m) ≡ true
      → Written mid y m (row_of n k (block q n y m)) new → Before q n k old rows step (y + m) new
  before_turn {y} {m} {mid} {new} b l e h w =
      record {
        bound = least_inside step l e;
        small = λ i g. each i g (dec_lt i (n * y));
        written = written_next b.written (subst (λ a. Written mid a m (row_of n k (block q n y m)) new) (sym (Nat.zero-add y)) w) (block_row q n y m k);
        later = λ g. inr (omega arith);
      }
    where
      late : (i j : ℕ) → n * y + j ≡ i → j < n * m → get_or q i 0 < p
      late i j e g = subst (λ x. x < p) (block_word q n y m j g ∙ ap (λ x. get_or q x 0) e) (canonical_below (block q n y m) h j)

      each : (i : ℕ) → i < n * (y + m) → Dec (i < n * y) → get_or q i 0 < p
      each i g (yes a) = b.small i a
      each i g (no a) = late i (i - n * y) (omega arith) (omega (arith, Nat.mul-add n y m))

  -- room for the zeros that were there, and for the next block
  pub fill_room : {y : ℕ} {mid : List ℕ} → Before q n k old rows step y mid → length old ≡ 4 * rows → 4 * (0 + y) ≤ length mid
  fill_room b e = omega (arith, b.written.length_kept, b.bound)

  pub block_room : {y : ℕ} (m : ℕ) {mid : List ℕ} → Before q n k old rows step y mid → length old ≡ 4 * rows → y + m ≤ rows → 4 * (y + m) ≤ length mid
  block_room m b e l = omega (arith, b.written.length_kept)

  module _ {y : ℕ} {mid : List ℕ} (b : Before q n k old rows step y mid) (size : length q ≡ n * rows) where
    -- every block was fine
    pub before_end : rows ≤ y → Checked q old rows (row_of n k q) true mid
    before_end l =
        let e : y ≡ rows = (let h : y ≤ rows = b.bound in omega arith) in
        checked_fine (sym (canonical_all q (λ i h. b.small i (omega (arith, ap (λ x. n * x) e))))) refl refl (written_end b.bound l b.written)

    -- one was not, and zeros are put back
    module _ {new : List ℕ} (more : y < rows) (zeros : Steps old rows step) (w : Written mid 0 y (λ i. elem_of (four 0 0 0 0)) new) where
      back : (i : ℕ) → words_at new i ≡ words_at old i
      back i = by zeros (b.later more) (dec_lt i y)
        where
          by : Steps old rows step → (y ≡ 0) ⊎ (step ≤ y) → Dec (i < y) → words_at new i ≡ words_at old i
          by z s (no h) = w.after i (omega arith) ∙ b.written.after i (omega arith)
          by (inl z) (inl s) (yes h) = absurd (omega arith)
          by (inl z) (inr s) (yes h) = absurd (omega arith)
          by (inr z) s (yes h) = ap (words_at new) (sym (Nat.zero-add i)) ∙ w.elements i h ∙ sym (reduced 0 0 0 0 refl refl refl refl) ∙ sym (zero_words old z.1 i)

      pub before_bad : (m : ℕ) → y + m ≤ rows → length old ≡ 4 * rows → canonical_words (block q n y m) ≡ false → Checked q old rows (row_of n k q) false new
      before_bad m inside room h =
          checked_bad (sym (block_bad q n y m rows size inside h)) refl refl
          (blocks_is rows (words_at old) new (w.length_kept ∙ b.written.length_kept ∙ room) (λ i l. back i) ∙ sym (blocks_is rows (words_at old) old room (λ i l. refl)))
