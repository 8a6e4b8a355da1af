-- A text that is whole is of document 01's form.
use Prim.Native.Nat.{ℕ, ◌+◌, ◌*◌, ◌-◌, ◌%◌, ◌≤◌, ◌<◌}
use mathlib.Core.Path.{◌≡◌, refl, sym, ap, subst, ◌∙◌}
use mathlib.Core.Bool.{Bool, true, false}
use mathlib.Core.List.{List, [], ◌∷◌, ◌++◌}
use mathlib.Core.Logic.{◌⊎◌, inl, inr, ⊎_elim}
use native.Mathlib.Omega.{arith}
use lib.ListN.{length, set, length-set}
use lib.Dec.{eqb}
use borrow.Author.Tests.{eqb-true}
use Rattle.text.specs.Reading.{is_digit}
use Rattle.text.specs.Numeral.{value_from, Digits}
use Rattle.text.proofs.Orders.{below_or}
use Rattle.plan_text.specs.Steps.{State, state, started, within, refused, step_of, steps_of, ending, whole_of}
use Rattle.plan_text.specs.Spelling.{Spelled, Text}
use Rattle.plan_text.proofs.Spellings.{spelled_read}
use Rattle.plan_text.proofs.Readings.{digit_bounds, digit_in, digit_over, other, ends, no_digit, no_place, never_whole}

-- what a text is that leads from the start of a number to an end
record Between (k : ℕ) (words text : List ℕ) : Type 0 where
  xs : List ℕ
  spelled : Spelled k xs text
  room : k + length xs ≤ length words

-- and from within a number of a value so far
record Inside (k v : ℕ) (words text : List ℕ) : Type 0 where
  ds : List ℕ
  rest : List ℕ
  xs : List ℕ
  digits : Digits ds
  small : value_from v ds < 4294967296
  form : text ≡ ds ++ ending k ∷ rest
  spelled : Spelled (k + 1) xs rest
  room : k + 1 + length xs ≤ length words

either : (t : Bool) → (t ≡ true) ⊎ (t ≡ false)
either true = inl refl
either false = inr refl

abbrev Ends : State → List ℕ → Type 0
Ends s text = whole_of (steps_of s text).reading ≡ true

abbrev FromStart : List ℕ → Type 0
FromStart text = (k : ℕ) (words : List ℕ) → k ≤ length words → Ends (state (started k) words) text → Between k words text

abbrev FromWithin : List ℕ → Type 0
FromWithin text = (k v : ℕ) (words : List ℕ) → v < 4294967296 → Ends (state (within k v) words) text → Inside k v words text

-- a byte that is refused leads to no end
module _ (s : State) (b : ℕ) (bs : List ℕ) (k : ℕ) (words : List ℕ) where
  no_end : {A : Type 0} → step_of s b ≡ state (refused k) words → Ends s (b ∷ bs) → A
  unfolding steps_of
  no_end e w = absurd (never_whole k words bs (subst (λ t. Ends t bs) e w))

module _ (b : ℕ) (bs : List ℕ) where
  first_digit : (k : ℕ) (words : List ℕ) → (48 ≤ b) × (b < 58) → Inside k (0 * 10 + (b - 48)) words bs → Between k words (b ∷ bs)
  unfolding Spelled Digits value_from
  first_digit k words h n = record {
    xs = value_from (0 * 10 + (b - 48)) n.ds ∷ n.xs;
    spelled = (b ∷ n.ds, n.rest, record { some = omega arith; digits = (h.0, h.1, n.digits); value = refl; small = n.small }, ap (λ l. b ∷ l) n.form, n.spelled);
    room = omega (arith, n.room);
  }

  from_start : FromWithin bs → FromStart (b ∷ bs)
  unfolding steps_of
  from_start later k words h w = ⊎_elim
      (λ d.
      let bound = digit_bounds b d in
      let low : 0 * 10 + (b - 48) < 4294967296 = omega (arith, bound.0, bound.1) in
      first_digit k words bound (later k (0 * 10 + (b - 48)) words low (subst (λ t. Ends t bs) (digit_in words b (started k) refl d low) w)))
      (λ d. no_end (state (started k) words) b bs k words (no_digit words b (started k) refl refl d) w)
      (either (is_digit b))

  one_more : (k v : ℕ) (words : List ℕ) → (48 ≤ b) × (b < 58) → Inside k (v * 10 + (b - 48)) words bs → Inside k v words (b ∷ bs)
  unfolding Digits value_from
  one_more k v words h n = record {
    ds = b ∷ n.ds;
    rest = n.rest;
    xs = n.xs;
    digits = (h.0, h.1, n.digits);
    small = n.small;
    form = ap (λ l. b ∷ l) n.form;
    spelled = n.spelled;
    room = n.room;
  }

  last_digit : (k v : ℕ) (words : List ℕ) → v < 4294967296 → b ≡ ending k → Between (k + 1) (set words k v) bs → Inside k v words (b ∷ bs)
  unfolding Digits value_from
  last_digit k v words s e n = record {
    ds = [];
    rest = bs;
    xs = n.xs;
    digits = tt;
    small = s;
    form = ap (λ a. a ∷ bs) e;
    spelled = n.spelled;
    room = omega (arith, n.room, length-set words k v);
  }

  from-within : FromStart bs → FromWithin bs → FromWithin (b ∷ bs)
  unfolding steps_of
  from-within start later k v words s w = ⊎_elim
      (λ d. ⊎_elim
      (λ low. one_more k v words (digit_bounds b d)
      (later k (v * 10 + (b - 48)) words low (subst (λ t. Ends t bs) (digit_in words b (within k v) refl d low) w)))
      (λ high. no_end (state (within k v) words) b bs k words (digit_over words b (within k v) refl d high) w)
      (below_or (v * 10 + (b - 48)) 4294967296))
      (λ d. ⊎_elim
      (λ e. ⊎_elim
      (λ low. last_digit k v words s (eqb-true b (ending k) e)
      (start (k + 1) (set words k v) (omega (arith, length-set words k v)) (subst (λ t. Ends t bs) (ends words b (within k v) refl refl e low) w)))
      (λ high. no_end (state (within k v) words) b bs k words (no_place words b (within k v) refl refl e high) w)
      (below_or k (length words)))
      (λ e. no_end (state (within k v) words) b bs k words (other words b (within k v) refl d e) w)
      (either (eqb b (ending k))))
      (either (is_digit b))

both : (text : List ℕ) → FromStart text × FromWithin text
unfolding steps_of Spelled whole_of
both [] = (λ k words h w. record { xs = []; spelled = refl; room = omega arith }, λ k v words s w. let z : ◌≡◌ {A = ℕ} 0 1 = cc in absurd (omega arith))
both (b ∷ bs) = (from_start b bs (both bs).1, from-within b bs (both bs).0 (both bs).1)

-- a whole text is a text of the form, whose numbers have room
pub whole_text : (words text : List ℕ) → whole_of (steps_of (state (started 0) words) text).reading ≡ true
    → (numbers : List ℕ) × Text numbers text × (length numbers ≤ length words)
unfolding whole_of
whole_text words text w =
    let n = (both text).0 0 words (omega arith) w in
    let e = spelled_read n.xs words 0 text n.spelled n.room in
    let z : 0 + length n.xs ≡ length n.xs = omega arith in
    let l : eqb ((0 + length n.xs) % 3) 2 ≡ true = rw e at w in
    (n.xs, record { lines = ap (λ m. m % 3) (sym z) ∙ eqb-true ((0 + length n.xs) % 3) 2 l; spelled = n.spelled }, omega (arith, n.room))
