-- The tables of the distinct heights in one buffer: entry x of height h stands at the height's start plus x.
use mathlib.Core.Path.{◌≡◌, refl, sym, ◌∙◌, ap}
use mathlib.Core.Bool.{Bool, true, false, cond}
use mathlib.Core.List.{List, []}
use Prim.Native.Nat.{ℕ, zero, suc, ◌+◌, ◌-◌, ◌^◌, ◌<◌, ◌≤◌}
use native.Mathlib.Omega.{arith}
use lib.Dec.{leb}
use lib.ListN.{length}
use borrow.Author.Tests.{le-leb}
use Rattle.field.specs.Element.{elem_of}
use Rattle.field.specs.Slice.{elem_at, words_at}
use Rattle.field.proofs.ElementWords.{elem_of_words_at}
use Rattle.prover.specs.Slots.{occurs, entries, slot_start, slotted, table_size}
use Rattle.prover.specs.Calls.{tables}
use Rattle.prover.proofs.SlotLaws.{slot_room, slotted_at}
use Rattle.reduction.proofs.BufferLaws.{words_at-blocks}

module _ (l : ℕ) (lists : List ℕ) where
  -- a table that has an entry is of a height that occurs
  pub entries_if_any : (h x : ℕ) → x < entries l lists h → entries l lists h ≡ 2 ^ (h - l)
  unfolding entries
  entries_if_any h x = by (occurs lists h)
    where
      by : (b : Bool) → x < cond b (2 ^ (h - l)) 0 → cond b (2 ^ (h - l)) 0 ≡ 2 ^ (h - l)
      by true k = refl
      by false k = absurd (omega arith)

  -- an entry's index lies in the buffer
  pub entry-inside : (n h x : ℕ) → h ≤ l + n → x < entries l lists h → slot_start l lists h + x < table_size l n lists
  entry-inside n h x s k = omega (arith, slot_room l lists n h s)

  -- four words wherever each entry has four
  pub slotted-four : (m : ℕ) (f : ℕ → ℕ → List ℕ) → ((h x : ℕ) → length (f h x) ≡ 4) → (i : ℕ) → length (slotted l lists (suc m) f i) ≡ 4
  unfolding slotted slot_start
  slotted-four zero f four i = ap (λ b. length (cond b (f 0 (i - 0)) [])) (le-leb 0 i (omega arith)) ∙ four 0 (i - 0)
  slotted-four (suc m) f four i = by (leb (slot_start l lists (suc m)) i) (slotted-four m f four i)
    where
      by : (b : Bool) → length (slotted l lists (suc m) f i) ≡ 4
          → length (cond b (f (suc m) (i - slot_start l lists (suc m))) (slotted l lists (suc m) f i)) ≡ 4
      by true e = four (suc m) (i - slot_start l lists (suc m))
      by false e = e

  pub words_at-tables : (n : ℕ) (f : ℕ → ℕ → List ℕ) → ((h x : ℕ) → length (f h x) ≡ 4) → (h x : ℕ) → h ≤ l + n → x < entries l lists h
      → words_at (tables l n lists f) (slot_start l lists h + x) ≡ f h x
  words_at-tables n f four h x s k =
      words_at-blocks (table_size l n lists) (slotted l lists (l + n + 1) f)
      (λ i. ap (λ m. length (slotted l lists m f i)) {x = l + n + 1} {y = suc (l + n)} (omega arith) ∙ slotted-four (l + n) f four i) (slot_start l lists h + x)
      (entry-inside n h x s k)
      ∙ slotted_at l lists (l + n + 1) h x f (omega arith) k

  pub elem_at_tables : (n : ℕ) (f : ℕ → ℕ → List ℕ) → ((h x : ℕ) → length (f h x) ≡ 4) → (h x : ℕ) → h ≤ l + n → x < entries l lists h
      → elem_at (tables l n lists f) (slot_start l lists h + x) ≡ elem_of (f h x)
  elem_at_tables n f four h x s k = sym (elem_of_words_at _ (slot_start l lists h + x)) ∙ ap elem_of (words_at-tables n f four h x s k)
