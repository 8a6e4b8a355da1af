-- The live part of the work buffers in a round holds what each column is read from.
use Rattle.std.proofs.Common.{◌≡◌, ℕ, ◌+◌, ◌-◌, ◌*◌, ◌/◌, ◌^◌, ◌<◌, ◌≤◌, max, true, cond, List, length, get_or, sym, refl, ap, ◌∙◌, subst, arith, ne_eqb}
use native.Mathlib.Nat
use Rattle.algebra.proofs.Powers.{two_pow-pos, two_pow-add}
use Rattle.field.specs.Slice.{canonical_words}
use Rattle.layout.specs.Triples.{column_count}
use Rattle.layout.specs.declared.columns.Column.{Column}
use Rattle.layout.specs.Columns.{column_at}
use Rattle.weights.specs.Fits.{Fits}
use Rattle.weights.proofs.Blocks.{lift_fits}
use Rattle.prover.specs.Slots.{occurs, entries, slot_start, table_size}
use Rattle.prover.specs.Blocks.{part}
use Rattle.prover.specs.CallNumbers.{live, live_tables}
use Rattle.prover.specs.Live.{Placed, LiveRound, Held, LiveColumn}
use Rattle.prover.proofs.Parts.{part_canonical, canonical_within}
use Rattle.prover.proofs.SlotLaws.{entries-some, slot_room}
use Rattle.prover.proofs.PlanReady.{live_table}
use Rattle.prover.proofs.Places.{twice, place_inside}

quotient : (m i : ℕ) → i ≤ m → 2 ^ m / 2 ^ i ≡ 2 ^ (m - i)
quotient m i k =
    ap (λ a. a / 2 ^ i) (ap (λ a. 2 ^ a) {x = m} {y = i + (m - i)} (omega arith) ∙ two_pow-add i (m - i)) ∙ Nat.mul-div_cancel_left (2 ^ (m - i)) (two_pow-pos i)

-- of 2^m entries 2^(m − i) are left
pub live_is : (m i : ℕ) → i ≤ m → live (2 ^ m) i ≡ 2 ^ (m - i)
unfolding live
live_is m i k =
    ap (λ t. cond t 0 (max 1 (2 ^ m / 2 ^ i))) (ne_eqb (2 ^ m) 0 (λ e. omega (arith, two_pow-pos m)))
    ∙ ap (λ a. max 1 a) (quotient m i k) ∙ most (2 ^ (m - i)) (two_pow-pos (m - i))
  where
    most : (a : ℕ) → 0 < a → max 1 a ≡ a
    most a h = omega arith

module _ {l n stacked : ℕ} {lists slots : List ℕ} {j : ℕ} {q eq rot : List ℕ} (round : LiveRound l n lists stacked slots j q eq rot) where
  module _ (h : ℕ) (there : occurs lists h ≡ true) (low : h ≤ l + n) (c : j ≤ h - l) where
    abbrev m : ℕ
    m = 2 * 2 ^ (h - l - j)

    left : live (entries l lists h) (j - 1) ≡ m
    left =
        ap (λ e. live e (j - 1)) (entries-some l lists h there) ∙ live_is (h - l) (j - 1) (omega arith)
        ∙ twice (h - l - (j - 1)) (h - l - j) (let f = round.from in omega arith)

    -- the two tables of a height
    pub table_held : (t : List ℕ) → live_tables l lists (j - 1) t (l + n + 1) ≡ true → length t ≡ 4 * table_size l n lists → Held t (slot_start l lists h) m
    table_held t e size = record {
      room = let r = slot_room l lists n h low in omega (arith, entries-some l lists h there, few);
      below = part_canonical t (slot_start l lists h) m refl refl (ap (λ k. canonical_words (part t (slot_start l lists h) k)) (sym left) ∙ live_table l lists (j - 1) t (l + n + 1) h e (omega arith));
    }
      where
        few : m ≤ 2 ^ (h - l)
        few = let f = round.from in omega (arith, twice (h - l - (j - 1)) (h - l - j) (omega arith), Nat.pow-le-pow_right {n = 2} (omega arith) {i = h - l - (j - 1)} {j = h - l} (omega arith))

  -- values that lie among those that are left
  pub values-held : (at m : ℕ) → at + m ≤ stacked * 2 ^ (n - (j - 1)) → Held q at m
  values-held at m k = record {
    room = omega (arith, round.values_size, Nat.mul-le-mul_left stacked (Nat.pow-le-pow_right {n = 2} (omega arith) {i = n - (j - 1)} {j = n} (omega arith)));
    below = canonical_within q 0 (stacked * 2 ^ (n - (j - 1))) at m (omega arith) (omega arith) round.values;
  }

  pub live-column : {h s : ℕ} → l + n ≤ 24 → n ≤ 20 → Fits l n h s → s / 2 ^ (l + n) < stacked → occurs lists h ≡ true → {at : ℕ} → at ≡ get_or slots h 0
      → LiveColumn l j s h at q eq rot
  live-column {h} {s} sum few f inside there {at} e = record {
    small = let t = round.to in omega arith;
    from = round.from;
    low = omega (arith, lift_fits f);
    long = λ c. (
      values-held (s / 2 ^ (l + j - 1)) (2 * 2 ^ (h - l - j)) (window c),
      rw start (table_held h there f.log c eq round.eq_live round.eq_size),
      rw start (table_held h there f.log c rot round.rot_live round.rot_size),
    );
    short = λ c. values-held (2 * (s / 2 ^ (l + j))) 2 (pair c);
  }
    where
      start : at ≡ slot_start l lists h
      start = e ∙ round.starts.starts h (let g = f.log in omega arith)

      before : l + j - 1 ≡ l + (j - 1)
      before = let g = round.from in omega arith

      window : j ≤ h - l → s / 2 ^ (l + j - 1) + 2 * 2 ^ (h - l - j) ≤ stacked * 2 ^ (n - (j - 1))
      window c =
          let g = round.from in
          let t = round.to in
          rw (before, ← twice (h - l - (j - 1)) (h - l - j) (omega arith)) (place_inside f (j - 1) stacked (omega arith) inside)

      pair : h - l < j → 2 * (s / 2 ^ (l + j)) + 2 ≤ stacked * 2 ^ (n - (j - 1))
      pair c =
          let t = round.to in
          let g = round.from in
          omega (arith, place_inside f j stacked t inside, two_pow-pos (h - l - j), ap (λ a. stacked * a) (twice (n - (j - 1)) (n - j) (omega arith)), Nat.mul_left_comm stacked 2 (2 ^ (n - j)))

-- of column k of a run
pub column-live : {l n first columns stacked : ℕ} {lists slots : List ℕ} {j : ℕ} {q eq rot : List ℕ} → Placed l n first lists columns stacked
    → LiveRound l n lists stacked slots j q eq rot → (k : ℕ) → k < columns → {c : Column} → c ≡ column_at l n first lists k → LiveColumn l j c.start c.log (get_or slots c.log 0) q eq rot
column-live {l} {n} {first} {columns} {stacked} {lists} {slots} {j} {q} {eq} {rot} p r k h {c} e =
    let i : k < column_count lists = omega (arith, p.walked.all) in
    subst (λ (x : Column). LiveColumn l j x.start x.log (get_or slots x.log 0) q eq rot) (sym e)
    (live-column r p.sum p.stack (p.fits k i) (p.inside k i) (p.there k i) refl)

pub log_small : {l n first columns stacked : ℕ} {lists : List ℕ} → Placed l n first lists columns stacked → (k : ℕ) → k < columns → {c : Column} → c ≡ column_at l n first lists k → c.log ≤ 24
log_small {l} {n} {first} {lists = lists} p k h e =
    let i : k < column_count lists = omega (arith, p.walked.all) in
    subst (λ (x : Column). x.log ≤ 24) (sym e) (let f = (p.fits k i).log in let s = p.sum in omega arith)
