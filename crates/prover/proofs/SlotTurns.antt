-- The loops of a plan: whether a height occurs, and where the tables start.
use Rattle.std.proofs.Common.{◌≡◌, ℕ, ◌+◌, ◌-◌, ◌*◌, ◌%◌, ◌^◌, ◌<◌, ◌≤◌, Bool, true, false, not, ◌&&◌, ◌||◌, eqb, ltb, List, length, get_or, set, sym, refl, ap, ◌∙◌, ap₂, ⊎_elim, eq-or-lt_of_le, add-one, arith, length-set, get_or-set_other, get_or-set_same, le-ltb, lt-ltb, eq-eqb, ne_eqb}
use mathlib.Core.Bool.{or-true, or-false}
use borrow.Author.Tests.{not-true, not-false}
use Rattle.layout.specs.Triples.{width_at, log_at}
use Rattle.prover.specs.Slots.{occurs_in, occurs, entries, slot_start, Slots}
use Rattle.prover.proofs.Shifts.{shifted}
use Rattle.prover.proofs.SlotLaws.{entries-some, entries_none, entries-small, start_zero, start_next, start_small}

more : (lists : List ℕ) (h i : ℕ) → occurs_in lists (i + 1) h ≡ occurs_in lists i h || (ltb 0 (width_at lists i) && eqb (log_at lists i) h)
unfolding occurs_in
more lists h i = ap (λ k. occurs_in lists k h) (add-one i)

-- a turn of the search for a height
module _ (lists : List ℕ) (h i : ℕ) {found : Bool} (is : found ≡ occurs_in lists i h) where
  -- found stays, or is set, as the test of matrix i says
  abbrev test : Bool
  test = ltb 0 (width_at lists i) && eqb (log_at lists i) h

  hit : {found' : Bool} → test ≡ true → found' ≡ true → found' ≡ occurs_in lists (i + 1) h
  hit e f = f ∙ sym (more lists h i ∙ ap (λ t. occurs_in lists i h || t) e ∙ or-true (occurs_in lists i h))

  miss : {found' : Bool} → test ≡ false → found' ≡ found → found' ≡ occurs_in lists (i + 1) h
  miss e f = f ∙ is ∙ sym (more lists h i ∙ ap (λ t. occurs_in lists i h || t) e ∙ or-false (occurs_in lists i h))

  pub occurs-here : {found' : Bool} → (width_at lists i ≡ 0 → ⊥) → log_at lists i ≡ h → found' ≡ true → found' ≡ occurs_in lists (i + 1) h
  occurs-here w e f = hit (ap₂ ◌&&◌ (lt-ltb 0 (width_at lists i) (omega arith)) (eq-eqb (log_at lists i) h e)) f

  pub occurs_other : {found' : Bool} → (width_at lists i ≡ 0 → ⊥) → (log_at lists i ≡ h → ⊥) → found' ≡ found → found' ≡ occurs_in lists (i + 1) h
  occurs_other w e f = miss (ap₂ ◌&&◌ (lt-ltb 0 (width_at lists i) (omega arith)) (ne_eqb (log_at lists i) h e)) f

  pub occurs_empty : {found' : Bool} → width_at lists i ≡ 0 → found' ≡ found → found' ≡ occurs_in lists (i + 1) h
  occurs_empty w f = miss (ap (λ t. t && eqb (log_at lists i) h) (le-ltb 0 (width_at lists i) (omega arith))) f

pub occurs_start : (lists : List ℕ) (h : ℕ) → false ≡ occurs_in lists 0 h
unfolding occurs_in
occurs_start lists h = refl

-- the entries of a height, as a call has them
module _ (l : ℕ) (lists : List ℕ) (h : ℕ) {found : Bool} (is : found ≡ occurs lists h) where
  pub entries_no : not found ≡ true → 0 ≡ entries l lists h
  entries_no e = sym (entries_none l lists h (sym is ∙ not-true found e))

  pub entries_yes : not found ≡ false → h ≤ l + 20 → {x : ℕ} → x ≡ h - l → 1 * 2 ^ x % 18446744073709551616 ≡ entries l lists h
  entries_yes e b {x} f =
      shifted 1 x (omega arith) (omega arith)
      ∙ ap (λ y. 1 * 2 ^ y) f
      ∙ omega arith
      ∙ sym (entries-some l lists h (sym is ∙ not-false found e))

-- the slots that the loop has filled, up to height h
pub record Starting (l : ℕ) (lists : List ℕ) (h : ℕ) (slots : List ℕ) : Type 0 where
  pub starts : (k : ℕ) → k ≤ h → get_or slots k 0 ≡ slot_start l lists k
  pub long : length slots ≡ 32

pub starting_zero : (l : ℕ) (lists slots : List ℕ) → get_or slots 0 0 ≡ 0 → length slots ≡ 32 → Starting l lists 0 slots
starting_zero l lists slots e f = record { starts = λ k h. ap (λ i. get_or slots i 0) {x = k} {y = 0} (omega arith) ∙ e ∙ sym (start_zero l lists) ∙ ap (slot_start l lists) {x = 0} {y = k} (omega arith); long = f }

pub starting_turn : (l : ℕ) (lists slots : List ℕ) (h e : ℕ) {slots' : List ℕ} → Starting l lists h slots → h < 31 → e ≡ entries l lists h
    → slots' ≡ set slots (h + 1) (get_or slots h 0 + e) → Starting l lists (h + 1) slots'
starting_turn l lists slots h e {slots'} s small is step =
    record { starts = λ k b. ap (λ xs. get_or xs k 0) step ∙ ⊎_elim (λ q. last k q) (λ q. other k (omega arith)) (eq-or-lt_of_le b); long = ap length step ∙ simp length-set s.long }
  where
    last : (k : ℕ) → k ≡ h + 1 → get_or (set slots (h + 1) (get_or slots h 0 + e)) k 0 ≡ slot_start l lists k
    last k q =
        ap (λ i. get_or (set slots (h + 1) (get_or slots h 0 + e)) i 0) q
        ∙ get_or-set_same slots (h + 1) (get_or slots h 0 + e) 0 (omega (arith, s.long))
        ∙ ap₂ ◌+◌ (s.starts h (omega arith)) is
        ∙ sym (start_next l lists h)
        ∙ ap (slot_start l lists) (sym q)

    other : (k : ℕ) → k ≤ h → get_or (set slots (h + 1) (get_or slots h 0 + e)) k 0 ≡ slot_start l lists k
    other k b = get_or-set_other slots (h + 1) k (get_or slots h 0 + e) 0 (λ z. omega arith) ∙ s.starts k b

-- the next start fits
pub starting_fits : (l n : ℕ) (lists slots : List ℕ) (h e : ℕ) → Starting l lists h slots → n ≤ 20 → h < l + n + 1 → l + n ≤ 24 → e ≡ entries l lists h → get_or slots h 0 + e ≤ 2 ^ 30
starting_fits l n lists slots h e s few b small is =
    omega (arith, s.starts h (omega arith), start_small l lists n h few (omega arith), entries-small l lists h (omega arith))

pub starting_end : (l n : ℕ) (lists slots : List ℕ) (h : ℕ) → l + n + 1 ≤ h → Starting l lists h slots → Slots l n lists slots
starting_end l n lists slots h e s = record { starts = λ k b. s.starts k (omega arith); size = s.long }
