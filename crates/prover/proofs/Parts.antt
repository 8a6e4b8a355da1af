-- Parts of slices that are lent to the loops: what holds of a part is what holds of the slice from there on.
use Rattle.std.proofs.Common.{◌≡◌, ℕ, zero, suc, ◌+◌, ◌-◌, ◌*◌, ◌/◌, ◌%◌, ◌<◌, ◌≤◌, true, List, length, get_or, take, drop, sym, refl, ap, ◌∙◌, ap₂, arith, length-drop, length-take, get_or-drop, get_or-take}
use mathlib.Core.Path.{subst⁻¹}
use native.Mathlib.Nat
use Rattle.algebra.specs.Multilinear.{bit_factor, line, fold_mle}
use Rattle.field.specs.Word.{p}
use Rattle.field.specs.Element.{Elem, F, ◌⊗◌}
use Rattle.field.specs.Canonical.{Canonical}
use Rattle.field.specs.Slice.{elem_at, words_at, canonical_words}
use Rattle.field.proofs.Slices.{canonical_all}
use Rattle.field.proofs.ElementWords.{elem_at_same, words_take, words_drop}
use Rattle.prover.specs.Words.{CanonicalFrom, Words}
use Rattle.prover.specs.RoundValues.{round_bit}
use Rattle.prover.proofs.LineValues.{words_canonical}

pub part_word : (xs : List ℕ) (a m k : ℕ) → k < m → get_or (take m (drop a xs)) k 0 ≡ get_or xs (a + k) 0
part_word xs a m k h = get_or-take m (drop a xs) k 0 h ∙ get_or-drop a xs k 0

-- the part of n elements from index `at` on
module _ (xs : List ℕ) (at n : ℕ) {a m : ℕ} (ea : a ≡ 4 * at) (em : m ≡ 4 * n) where
  pub part_words : (i : ℕ) → i < n → words_at (take m (drop a xs)) i ≡ words_at xs (at + i)
  part_words i h = words_take m (drop a xs) i (omega arith) ∙ ap (λ k. words_at (drop k xs) i) ea ∙ words_drop xs at i

  pub part-element : (i : ℕ) → i < n → elem_at (take m (drop a xs)) i ≡ elem_at xs (at + i)
  part-element i h = elem_at_same (take m (drop a xs)) xs i (at + i) (part_words i h)

  -- the scan of a part, both ways
  pub part_canonical : canonical_words (take m (drop a xs)) ≡ true → CanonicalFrom xs at n
  part_canonical h i l = subst⁻¹ Canonical (sym (part_words i l)) (words_canonical (take m (drop a xs)) h i refl)

  module _ (room : 4 * (at + n) ≤ length xs) (h : CanonicalFrom xs at n) where
    below : (i j : ℕ) → i < n → j < 4 → get_or xs (4 * (at + i) + j) 0 < p
    unfolding words_at
    below i j l g = by (h i l) j g
      where
        by : Canonical (words_at xs (at + i)) → (j : ℕ) → j < 4 → get_or xs (4 * (at + i) + j) 0 < p
        by c zero g = subst⁻¹ (λ k. get_or xs k 0 < p) (Nat.add-zero (4 * (at + i))) c.w0
        by c (suc zero) g = c.w1
        by c (suc (suc zero)) g = c.w2
        by c (suc (suc (suc zero))) g = c.w3
        by c (suc (suc (suc (suc j)))) g = absurd (omega arith)

    pub canonical_part : Words (take m (drop a xs)) m
    canonical_part =
        record {
          room = omega (arith, long);
          canonical = canonical_all _ (λ k l. let s : k < m = omega (arith, long) in subst⁻¹ (λ v. v < p) (part_word xs a m k s ∙ ap (λ v. get_or xs v 0) {x = a + k} {y = 4 * (at + k / 4) + k % 4} (omega arith)) (below (k / 4) (k % 4) (omega arith) (omega arith)));
        }
      where
        long : length (take m (drop a xs)) ≡ m
        long = length-take m (drop a xs) ∙ (let d : length (drop a xs) ≡ length xs - a = length-drop a xs in omega arith)

-- a part of a part
pub canonical_within : (xs : List ℕ) (at n b m : ℕ) → at ≤ b → b + m ≤ at + n → CanonicalFrom xs at n → CanonicalFrom xs b m
canonical_within xs at n b m l r h i k = subst⁻¹ (λ j. Canonical (words_at xs j)) {x = b + i} {y = at + (b - at + i)} (omega arith) (h (b - at + i) (omega arith))

-- only the first two entries count past a column's height
pub round_bit_cong : (a c : ℕ → Elem) (bit : ℕ) (x : Elem) → a 0 ≡ c 0 → a 1 ≡ c 1 → round_bit a bit x ≡ round_bit c bit x
unfolding round_bit fold_mle
round_bit_cong a c bit x e f = ap₂ (λ u v. line F u v x ⊗ bit_factor F x bit) e f
