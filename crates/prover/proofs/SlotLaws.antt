-- The tables of the heights: how many entries each has, where each starts, and that all are within the table's size.
use Rattle.std.proofs.Common.{◌≡◌, ℕ, zero, suc, ◌+◌, ◌-◌, ◌*◌, ◌^◌, ◌<◌, ◌≤◌, Bool, true, false, cond, ◌&&◌, ◌||◌, eqb, ltb, List, get_or, sym, refl, ap, ◌∙◌, ⊎_elim, le_of_suc-le-suc, eq-or-lt_of_le, add-one, arith, lt-ltb, eq-eqb, le-leb}
use mathlib.Core.Bool.{or-true}
use native.Mathlib.Nat.{pow-le-pow_right}
use borrow.Author.Tests.{lt-leb}
use Rattle.layout.specs.declared.columns.Column.{Column}
use Rattle.layout.specs.Triples.{count_of, width_at, log_at, column_count}
use Rattle.layout.specs.Columns.{column_at}
use Rattle.layout.proofs.Bounds.{column-found}
use Rattle.prover.specs.Slots.{occurs_in, occurs, entries, slot_start, slotted, table_size, Slots}

module _ (lists : List ℕ) where
  -- a matrix that has columns has a height that occurs
  pub occurs_in_lem : (m i : ℕ) → i < m → 0 < width_at lists i → occurs_in lists m (log_at lists i) ≡ true
  unfolding occurs_in
  occurs_in_lem zero i h w = absurd (omega arith)
  occurs_in_lem (suc m) i h w =
      ⊎_elim (λ e. here e)
      (λ q. ap (λ t. t || (ltb 0 (width_at lists m) && eqb (log_at lists m) (log_at lists i))) (occurs_in_lem m i q w))
      (eq-or-lt_of_le (le_of_suc-le-suc h))
    where
      here : i ≡ m → occurs_in lists m (log_at lists i) || (ltb 0 (width_at lists m) && eqb (log_at lists m) (log_at lists i)) ≡ true
      here e =
          ap (λ t. occurs_in lists m (log_at lists i) || t)
          (ap (λ k. ltb 0 (width_at lists k) && eqb (log_at lists k) (log_at lists i)) (sym e)
          ∙ ap (λ t. t && eqb (log_at lists i) (log_at lists i)) (lt-ltb 0 (width_at lists i) w)
          ∙ eq-eqb (log_at lists i) (log_at lists i) refl)
          ∙ or-true (occurs_in lists m (log_at lists i))

  pub matrix_occurs : (i : ℕ) → i < count_of lists → 0 < width_at lists i → occurs lists (log_at lists i) ≡ true
  matrix_occurs i h w = occurs_in_lem (count_of lists) i h w

  -- and so has each column
  pub column-occurs : (l n first k : ℕ) → k < column_count lists → occurs lists (column_at l n first lists k).log ≡ true
  column-occurs l n first k h =
      let f = column-found l n first lists k h in
      ap (λ (c : Column). occurs lists c.log) f.is ∙ matrix_occurs f.matrix f.there (omega (arith, f.within))

module _ (l : ℕ) (lists : List ℕ) where
  pub entries-some : (h : ℕ) → occurs lists h ≡ true → entries l lists h ≡ 2 ^ (h - l)
  unfolding entries
  entries-some h e = ap (λ t. cond t (2 ^ (h - l)) 0) e

  pub entries_none : (h : ℕ) → occurs lists h ≡ false → entries l lists h ≡ 0
  unfolding entries
  entries_none h e = ap (λ t. cond t (2 ^ (h - l)) 0) e

  -- no more entries than 2^n_lift
  pub entries_most : (h : ℕ) → entries l lists h ≤ 2 ^ (h - l)
  unfolding entries
  entries_most h = by (occurs lists h)
    where
      by : (t : Bool) → cond t (2 ^ (h - l)) 0 ≤ 2 ^ (h - l)
      by true = omega arith
      by false = omega arith

  pub entries_below : (h n : ℕ) → h ≤ l + n → entries l lists h ≤ 2 ^ n
  entries_below h n k = omega (arith, entries_most h, pow-le-pow_right {n = 2} (omega arith) {i = h - l} {j = n} (omega arith))

  pub entries-small : (h : ℕ) → h ≤ l + 20 → entries l lists h ≤ 2 ^ 20
  entries-small h k = entries_below h 20 k

  -- the starts, one after another
  pub start_zero : slot_start l lists 0 ≡ 0
  unfolding slot_start
  start_zero = refl

  pub start_next : (h : ℕ) → slot_start l lists (h + 1) ≡ slot_start l lists h + entries l lists h
  unfolding slot_start
  start_next h = ap (slot_start l lists) (add-one h)

  pub start_mono : (h k : ℕ) → h ≤ k → slot_start l lists h ≤ slot_start l lists k
  unfolding slot_start
  start_mono h zero e = ap_le h (omega arith)
    where
      ap_le : (h : ℕ) → h ≡ 0 → slot_start l lists h ≤ slot_start l lists 0
      ap_le h e = omega (arith, ap (slot_start l lists) e)
  start_mono h (suc k) e =
      ⊎_elim (λ q. omega (arith, ap (slot_start l lists) q)) (λ q. omega (arith, start_mono h k (omega arith))) (eq-or-lt_of_le e)

  pub start_small : (n h : ℕ) → n ≤ 20 → h ≤ l + n + 1 → slot_start l lists h ≤ h * 2 ^ 20
  unfolding slot_start
  start_small n zero m k = omega arith
  start_small n (suc h) m k = omega (arith, start_small n h m (omega arith), entries-small h (omega arith))

  -- a height's entries end where the next height's start
  pub slot_end : (h k : ℕ) → h < k → slot_start l lists h + entries l lists h ≤ slot_start l lists k
  slot_end h k e = omega (arith, start_next h, start_mono (h + 1) k (omega arith))

  pub slot_room : (n h : ℕ) → h ≤ l + n → slot_start l lists h + entries l lists h ≤ table_size l n lists
  slot_room n h e = slot_end h (l + n + 1) (omega arith)

  pub table_small : (n : ℕ) → n ≤ 20 → l + n ≤ 24 → table_size l n lists ≤ 25 * 2 ^ 20
  table_small n m k = omega (arith, start_small n (l + n + 1) m (omega arith))

  -- entry x of height h stands at the height's start plus x
  pub slotted_at : (m h x : ℕ) (f : ℕ → ℕ → List ℕ) → h < m → x < entries l lists h → slotted l lists m f (slot_start l lists h + x) ≡ f h x
  unfolding slotted
  slotted_at zero h x f e k = absurd (omega arith)
  slotted_at (suc m) h x f e k = ⊎_elim here (λ q. below q (slotted_at m h x f q k)) (eq-or-lt_of_le (le_of_suc-le-suc e))
    where
      here : h ≡ m → slotted l lists (suc m) f (slot_start l lists h + x) ≡ f h x
      here q =
          ap (λ j. slotted l lists (suc j) f (slot_start l lists h + x)) (sym q)
          ∙ ap (λ t. cond t (f h (slot_start l lists h + x - slot_start l lists h)) (slotted l lists h f (slot_start l lists h + x))) (le-leb (slot_start l lists h) (slot_start l lists h + x) (omega arith))
          ∙ ap (f h) {x = slot_start l lists h + x - slot_start l lists h} {y = x} (omega arith)

      below : h < m → slotted l lists m f (slot_start l lists h + x) ≡ f h x → slotted l lists (suc m) f (slot_start l lists h + x) ≡ f h x
      below q r =
          ap (λ t. cond t (f m (slot_start l lists h + x - slot_start l lists m)) (slotted l lists m f (slot_start l lists h + x)))
          (lt-leb (slot_start l lists m) (slot_start l lists h + x) (omega (arith, slot_end h m q)))
          ∙ r

-- the starts, as a call has them
module _ {l n : ℕ} {lists slots : List ℕ} (s : Slots l n lists slots) where
  pub slots_size : get_or slots (l + n + 1) 0 ≡ table_size l n lists
  slots_size = s.starts (l + n + 1) (omega arith)

  module _ (h : ℕ) (k : h ≤ l + n) where
    pub slots_next : get_or slots (h + 1) 0 ≡ get_or slots h 0 + entries l lists h
    slots_next = s.starts (h + 1) (omega arith) ∙ start_next l lists h ∙ ap (λ a. a + entries l lists h) (sym (s.starts h (omega arith)))

    pub slots_entries : get_or slots (h + 1) 0 - get_or slots h 0 ≡ entries l lists h
    slots_entries = omega (arith, slots_next)

    pub slots_rise : get_or slots h 0 ≤ get_or slots (h + 1) 0
    slots_rise = omega (arith, slots_next)

    pub slots_room : get_or slots h 0 + entries l lists h ≤ table_size l n lists
    slots_room = omega (arith, s.starts h (omega arith), slot_room l lists n h k)
