-- The tables of the heights, filled one height after the other: what stands in the buffer, over plain variables.
use Rattle.std.proofs.Common.{◌≡◌, ℕ, zero, suc, ◌+◌, ◌-◌, ◌*◌, ◌^◌, ◌<◌, ◌≤◌, Bool, true, false, cond, List, length, sym, refl, ap, ◌∙◌, subst, ap₂, ⊎_elim, eq-or-lt_of_le, arith, le-ltb, lt-ltb}
use native.Mathlib.Decide.{dec_lt}
use Rattle.algebra.specs.Multilinear.{line, fold_mle}
use Rattle.field.specs.Element.{Elem, F, words_of}
use Rattle.field.specs.Slice.{words_at}
use Rattle.field.proofs.ElementWords.{elem_at_same}
use Rattle.tables.specs.Window.{below}
use Rattle.prover.specs.Written.{Written, elems_from}
use Rattle.prover.specs.Slots.{occurs, entries, slot_start, slotted, table_size}
use Rattle.prover.specs.Blocks.{folded_words}
use Rattle.prover.specs.Calls.{tables}
use Rattle.prover.proofs.MleFolds.{below_in, below_out}
use Rattle.prover.proofs.SlotLaws.{start_next, slot_end, slotted_at}
use Rattle.prover.proofs.BlockLaws.{blocks_is}

-- a height has no entry, or 2^n_lift
pub entries_all : (l : ℕ) (lists : List ℕ) (h : ℕ) → (entries l lists h ≡ 0 → ⊥) → entries l lists h ≡ 2 ^ (h - l)
unfolding entries
entries_all l lists h n = by (occurs lists h) n
  where
    by : (t : Bool) → (cond t (2 ^ (h - l)) 0 ≡ 0 → ⊥) → cond t (2 ^ (h - l)) 0 ≡ 2 ^ (h - l)
    by true n = refl
    by false n = absurd (n refl)

module _ (l : ℕ) (lists : List ℕ) (old : List ℕ) (f : ℕ → ℕ → List ℕ) where
  -- the heights below h are done
  pub record Filled (h : ℕ) (new : List ℕ) : Type 0 where
    pub entry : (g x : ℕ) → g < h → x < entries l lists g → words_at new (slot_start l lists g + x) ≡ f g x
    pub rest : (i : ℕ) → slot_start l lists h ≤ i → words_at new i ≡ words_at old i
    pub length_kept : length new ≡ length old

  pub filled_none : Filled 0 old
  filled_none = record { entry = λ g x k e. absurd (omega arith); rest = λ i k. refl; length_kept = refl }

  pub filled_more : {h : ℕ} {mid new : List ℕ} → Filled h mid → ((x : ℕ) → x < entries l lists h → words_at new (slot_start l lists h + x) ≡ f h x)
      → ((i : ℕ) → i < slot_start l lists h → words_at new i ≡ words_at mid i) → ((i : ℕ) → slot_start l lists h + entries l lists h ≤ i → words_at new i ≡ words_at mid i)
      → length new ≡ length mid → Filled (h + 1) new
  filled_more {h} {mid} {new} s here before after size = record {
    entry = λ g x k e. ⊎_elim (λ q. subst (λ j. x < entries l lists j → words_at new (slot_start l lists j + x) ≡ f j x) (sym q) (here x) e) (λ q. before (slot_start l lists g + x) (omega (arith, slot_end l lists g h q)) ∙ s.entry g x q e) (let q : g ≤ h = omega arith in eq-or-lt_of_le q);
    rest = λ i k. after i (omega (arith, start_next l lists h)) ∙ s.rest i (omega (arith, start_next l lists h));
    length_kept = size ∙ s.length_kept;
  }

  pub filled-written : {h : ℕ} {mid new : List ℕ} (w : ℕ → Elem) → Filled h mid → Written mid (slot_start l lists h) (entries l lists h) w new
      → ((x : ℕ) → x < entries l lists h → words_of (w x) ≡ f h x) → Filled (h + 1) new
  filled-written w s t e = filled_more s (λ x k. t.elements x k ∙ e x k) t.before t.after t.length_kept

  -- the height and the entry that stand at an index
  abbrev Found : ℕ → ℕ → Type 0
  Found m i = (h : ℕ) × (x : ℕ) × (h < m) × (x < entries l lists h) × (slot_start l lists h + x ≡ i)

  locate : (m i : ℕ) → i < slot_start l lists m → Found m i
  unfolding slot_start
  locate zero i k = absurd (omega arith)
  locate (suc m) i k = by (dec_lt i (slot_start l lists m)) (locate m i)
    where
      up : Found m i → Found (suc m) i
      up (h, x, a, b, c) = (h, x, omega arith, b, c)

      by : Dec (i < slot_start l lists m) → (i < slot_start l lists m → Found m i) → Found (suc m) i
      by (yes q) before = up (before q)
      by (no q) before = (m, i - slot_start l lists m, omega arith, omega arith, omega arith)

  pub filled_end : (n : ℕ) {new : List ℕ} → Filled (l + n + 1) new → length old ≡ 4 * table_size l n lists → new ≡ tables l n lists f
  filled_end n {new} s size = blocks_is (table_size l n lists) (slotted l lists (l + n + 1) f) new (s.length_kept ∙ size) (λ i k. at i (locate (l + n + 1) i k))
    where
      at : (i : ℕ) → Found (l + n + 1) i → words_at new i ≡ slotted l lists (l + n + 1) f i
      at i (h, x, a, b, c) =
          ap (words_at new) (sym c) ∙ s.entry h x a b ∙ sym (slotted_at l lists (l + n + 1) h x f a b) ∙ ap (slotted l lists (l + n + 1) f) c

-- one part folded in place, word by word
pub folded_at : (old mid new : List ℕ) (at half : ℕ) (u : Elem) → ((i : ℕ) → at ≤ i → words_at mid i ≡ words_at old i)
    → Written mid at (2 * half) (below F half (fold_mle F (elems_from mid at) u)) new → (x : ℕ) → words_at new (at + x) ≡ folded_words old at half u x
unfolding folded_words fold_mle
folded_at old mid new at half u same s x = by (dec_lt x half) (dec_lt x (2 * half))
  where
    kept : (i : ℕ) → elems_from mid at i ≡ elems_from old at i
    kept i = elem_at_same mid old (at + i) (at + i) (same (at + i) (omega arith))

    by : Dec (x < half) → Dec (x < 2 * half) → words_at new (at + x) ≡ folded_words old at half u x
    by (yes a) b =
        rw (lt-ltb x half a)
        (s.elements x (omega arith) ∙ ap words_of (below_in half (fold_mle F (elems_from mid at) u) x a) ∙ ap₂ (λ v w. words_of (line F v w u)) (kept (2 * x)) (kept (2 * x + 1)))
    by (no a) (yes b) =
        rw (le-ltb x half (omega arith), lt-ltb x (2 * half) b) (s.elements x b ∙ ap words_of (below_out half (fold_mle F (elems_from mid at) u) x (omega arith)))
    by (no a) (no b) =
        rw (le-ltb x half (omega arith), le-ltb x (2 * half) (omega arith)) (s.after (at + x) (omega arith) ∙ same (at + x) (omega arith))
