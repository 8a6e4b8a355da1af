-- The loops over the heights, over plain variables: what each height's function asks, and one height more.
use Rattle.std.proofs.Common.{◌≡◌, ℕ, zero, suc, ◌+◌, ◌-◌, ◌*◌, ◌/◌, ◌^◌, ◌<◌, ◌≤◌, max, true, cond, List, length, get_or, sym, refl, ap, ◌∙◌, subst, ap₂, arith, ne_eqb}
use mathlib.Core.Path.{subst⁻¹}
use native.Mathlib.Nat
use Rattle.algebra.specs.Multilinear.{fold_mle}
use Rattle.algebra.proofs.Powers.{two_pow-add}
use Rattle.field.specs.Element.{Elem, F, ◌⊕◌, ◌⊖◌, ◌⊗◌, words_of}
use Rattle.field.specs.Canonical.{Canonical}
use Rattle.field.specs.Slice.{words_at, canonical_words}
use Rattle.field.proofs.ElementWords.{elem_at_same}
use Rattle.tables.specs.Index.{before}
use Rattle.tables.specs.Window.{below}
use Rattle.prover.specs.Words.{CanonicalFrom}
use Rattle.prover.specs.Written.{Written, elems_from}
use Rattle.prover.specs.Rotated.{rotated}
use Rattle.prover.specs.Slots.{entries, slot_start, table_size, Slots}
use Rattle.prover.specs.Blocks.{folded_words}
use Rattle.prover.specs.CallNumbers.{live, live_tables}
use Rattle.prover.specs.Live.{Held}
use Rattle.prover.proofs.LineValues.{words_canonical}
use Rattle.prover.proofs.Parts.{part_canonical}
use Rattle.prover.proofs.SlotLaws.{slot_room, slots_entries}
use Rattle.prover.proofs.PlanReady.{live_table}
use Rattle.prover.proofs.Filled.{entries_all, Filled, filled_more, filled-written, folded_at}

module _ {l n : ℕ} {lists slots : List ℕ} (s : Slots l n lists slots) (h : ℕ) (k : h < l + n + 1) where
  abbrev at : ℕ
  at = get_or slots h 0

  abbrev count : ℕ
  count = get_or slots (h + 1) 0 - get_or slots h 0

  count_is : count ≡ entries l lists h
  count_is = slots_entries s h (omega arith)

  at_is : at ≡ slot_start l lists h
  at_is = s.starts h (omega arith)

  -- none, or 2^n_lift
  pub count_all : (count ≡ 0 → ⊥) → count ≡ 2 ^ (h - l)
  count_all z = count_is ∙ entries_all l lists h (λ e. z (count_is ∙ e))

  pub count_room : (old mid : List ℕ) → length old ≡ 4 * table_size l n lists → length mid ≡ length old → 4 * (at + count) ≤ length mid
  count_room old mid size kept = omega (arith, slot_room l lists n h (omega arith), at_is, count_is)

  module _ (old : List ℕ) (f : ℕ → ℕ → List ℕ) {mid : List ℕ} (done : Filled l lists old f h mid) where
    -- what a height takes stands as it stood
    pub stands : (i : ℕ) → words_at mid (at + i) ≡ words_at old (at + i)
    stands i = done.rest (at + i) (omega (arith, at_is))

    pub entry_stands : (i : ℕ) → elems_from mid at i ≡ elems_from old at i
    entry_stands i = elem_at_same mid old (at + i) (at + i) (stands i)

    pub count_held : length old ≡ 4 * table_size l n lists → canonical_words old ≡ true → Held mid at count
    count_held size words = record {
      room = count_room old mid size done.length_kept;
      below = λ i m. words_canonical old words (at + i) (stands i);
    }

    pub height-written : (w : ℕ → Elem) {new : List ℕ} → Written mid at count w new → ((x : ℕ) → words_of (w x) ≡ f h x) → Filled l lists old f (h + 1) new
    height-written w {new} t e = filled-written l lists old f w done (subst (λ c. Written mid (slot_start l lists h) c w new) count_is (subst (λ a. Written mid a count w new) at_is t)) (λ x m. e x)

  -- the fold of round j
  module _ (j : ℕ) (from : 1 ≤ j) where
    abbrev half : ℕ
    half = count / 2 ^ j

    halves : half ≡ entries l lists h / 2 ^ j
    halves = ap (λ c. c / 2 ^ j) count_is

    step : (e : ℕ) → e / 2 ^ j ≡ e / 2 ^ (j - 1) / 2
    step e = ap (λ m. e / m) (ap (λ m. 2 ^ m) {x = j} {y = j - 1 + 1} (omega arith) ∙ two_pow-add (j - 1) 1) ∙ sym (Nat.div-div-eq-div-mul e (2 ^ (j - 1)) 2)

    live-some : (e : ℕ) → live (suc e) (j - 1) ≡ max 1 (suc e / 2 ^ (j - 1))
    unfolding live
    live-some e = ap (λ t. cond t 0 (max 1 (suc e / 2 ^ (j - 1)))) (ne_eqb (suc e) 0 (λ z. omega arith))

    twice_live : (e : ℕ) → 2 * (e / 2 ^ j) ≤ live e (j - 1)
    twice_live zero = rw (step 0, Nat.zero-div (2 ^ (j - 1))) (omega arith)
    twice_live (suc e) = rw (step (suc e)) (omega (arith, live-some e))

    twice_count : (e : ℕ) → 2 * (e / 2 ^ j) ≤ e
    twice_count e = rw (step e) (omega (arith, Nat.div-le_self e (2 ^ (j - 1))))

    module _ (old : List ℕ) (u : Elem) {mid : List ℕ} (done : Filled l lists old (λ g. folded_words old (slot_start l lists g) (entries l lists g / 2 ^ j) u) h mid) where
      pub fold_room : length old ≡ 4 * table_size l n lists → 4 * (at + 2 * half) ≤ length mid
      fold_room size = omega (arith, count_room old mid size done.length_kept, twice_count count)

      pub fold_below : live_tables l lists (j - 1) old (l + n + 1) ≡ true → CanonicalFrom mid at (2 * half)
      fold_below e i m =
          let c = part_canonical old (slot_start l lists h) (live (entries l lists h) (j - 1)) refl refl (live_table l lists (j - 1) old (l + n + 1) h e k) i (omega (arith, twice_live (entries l lists h), halves)) in
          subst⁻¹ Canonical (stands old _ done i ∙ ap (λ a. words_at old (a + i)) at_is) c

      pub fold_height : {new : List ℕ} → Written mid at (2 * half) (below F half (fold_mle F (elems_from mid at) u)) new
          → Filled l lists old (λ g. folded_words old (slot_start l lists g) (entries l lists g / 2 ^ j) u) (h + 1) new
      fold_height {new} t =
          filled_more l lists old _ done (λ x m. ap (λ a. words_at new (a + x)) (sym at_is) ∙ folded_at old mid new at half u (λ i b. done.rest i (omega (arith, at_is))) t x ∙ ap₂ (λ a b. folded_words old a b u x) at_is halves)
          (λ i m. t.before i (omega (arith, at_is))) (λ i m. t.after i (omega (arith, at_is, count_is, twice_count count))) t.length_kept

-- a rotated entry by equal tables
pub rotated_cong : (m : ℕ) (t v : ℕ → Elem) (a b : Elem) → ((i : ℕ) → t i ≡ v i) → (x : ℕ) → rotated m t a b x ≡ rotated m v a b x
unfolding rotated
rotated_cong m t v a b e x = ap₂ (λ p q. p ⊗ a ⊕ (q ⊖ p) ⊗ b) (e x) (e (before m x))
