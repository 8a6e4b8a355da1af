-- One byte more, by the kind of the byte: a digit, the byte that ends the number, or another.
use Prim.Native.Nat.{ℕ, ◌+◌, ◌*◌, ◌-◌, ◌%◌, ◌≤◌, ◌<◌}
use mathlib.Core.Path.{◌≡◌, refl, sym, ap, ◌∙◌}
use mathlib.Core.Bool.{Bool, true, false, cond, true≢false}
use mathlib.Core.List.{List, [], ◌∷◌}
use native.Mathlib.Omega.{arith}
use lib.ListN.{length, set}
use lib.Seq.{set_out}
use lib.Dec.{ltb, eqb}
use borrow.Author.Tests.{ltb-true, ltb-false, lt-ltb, le-ltb, ne_eqb}
use Rattle.text.specs.Reading.{is_digit}
use Rattle.plan_text.specs.declared.Reading.{Reading}
use Rattle.plan_text.specs.declared.Reading.TheVariants.{Between, Within, Wrong}
use Rattle.plan_text.specs.Steps.{
  count_of,
  value_of,
  digits_of,
  bad_of,
  state,
  started,
  within,
  refused,
  step_of,
  steps_of,
  ending,
  digit_of,
  ended_of,
  reading_of,
  words_of,
  whole_of,
}

bounds_by : (b : ℕ) (t : Bool) → ltb b 48 ≡ t → cond t false (ltb b 58) ≡ true → (48 ≤ b) × (b < 58)
bounds_by b true e h = let z : ◌≡◌ {A = ℕ} 0 1 = cc in absurd (omega arith)
bounds_by b false e h = (ltb-false b 48 e, ltb-true b 58 h)

pub digit_bounds : (b : ℕ) → is_digit b ≡ true → (48 ≤ b) × (b < 58)
unfolding is_digit
digit_bounds b h = bounds_by b (ltb b 48) refl h

pub is_digit_lem : (b : ℕ) → 48 ≤ b → b < 58 → is_digit b ≡ true
unfolding is_digit
is_digit_lem b h k = simp (le-ltb b 48 h, lt-ltb b 58 k)

ending_by : (t : Bool) → is_digit (cond t 10 32) ≡ false
unfolding is_digit
ending_by true = refl
ending_by false = refl

-- no number ends by a digit
pub ending_no_digit : (k : ℕ) → is_digit (ending k) ≡ false
unfolding ending
ending_no_digit k = ending_by (eqb (k % 3) 1)

-- nor by a byte that is one
pub not_ending : (k b : ℕ) → is_digit b ≡ true → eqb b (ending k) ≡ false
not_ending k b d = ne_eqb b (ending k) (λ e. true≢false (sym d ∙ ap is_digit e ∙ ending_no_digit k))

module _ (words : List ℕ) (b : ℕ) where
  pub digit_in : (r : Reading) → bad_of r ≡ false → is_digit b ≡ true → value_of r * 10 + (b - 48) < 4294967296
      → step_of (state r words) b ≡ state (within (count_of r) (value_of r * 10 + (b - 48))) words
  unfolding reading_of words_of digit_of
  digit_in (Between k v) good d h = simp (d, lt-ltb (v * 10 + (b - 48)) 4294967296 h)
  digit_in (Within k v) good d h = simp (not_ending k b d, d, lt-ltb (v * 10 + (b - 48)) 4294967296 h)
  digit_in (Wrong k v s) good d h = absurd (true≢false good)

  pub digit_over : (r : Reading) → bad_of r ≡ false → is_digit b ≡ true → 4294967296 ≤ value_of r * 10 + (b - 48)
      → step_of (state r words) b ≡ state (refused (count_of r)) words
  unfolding reading_of words_of digit_of
  digit_over (Between k v) good d h = simp (d, le-ltb (v * 10 + (b - 48)) 4294967296 h)
  digit_over (Within k v) good d h = simp (not_ending k b d, d, le-ltb (v * 10 + (b - 48)) 4294967296 h)
  digit_over (Wrong k v s) good d h = absurd (true≢false good)

  pub other : (r : Reading) → bad_of r ≡ false → is_digit b ≡ false → eqb b (ending (count_of r)) ≡ false
      → step_of (state r words) b ≡ state (refused (count_of r)) words
  unfolding reading_of words_of digit_of
  other (Between k v) good d e = simp d
  other (Within k v) good d e = simp (e, d)
  other (Wrong k v s) good d e = absurd (true≢false good)

  pub ends : (r : Reading) → bad_of r ≡ false → digits_of r ≡ true → eqb b (ending (count_of r)) ≡ true → count_of r < length words
      → step_of (state r words) b ≡ state (started (count_of r + 1)) (set words (count_of r) (value_of r))
  unfolding reading_of words_of ended_of
  ends (Between k v) good s e h = absurd (true≢false (sym s))
  ends (Within k v) good s e h = simp (e, lt-ltb k (length words) h)
  ends (Wrong k v t) good s e h = absurd (true≢false good)

  pub no_place : (r : Reading) → bad_of r ≡ false → digits_of r ≡ true → eqb b (ending (count_of r)) ≡ true → length words ≤ count_of r
      → step_of (state r words) b ≡ state (refused (count_of r)) words
  unfolding reading_of words_of ended_of
  no_place (Between k v) good s e h = absurd (true≢false (sym s))
  no_place (Within k v) good s e h = simp (e, le-ltb k (length words) h, set_out words k v h)
  no_place (Wrong k v t) good s e h = absurd (true≢false good)

  pub no_digit : (r : Reading) → bad_of r ≡ false → digits_of r ≡ false → is_digit b ≡ false → step_of (state r words) b ≡ state (refused (count_of r)) words
  unfolding reading_of words_of digit_of
  no_digit (Between k v) good s d = simp d
  no_digit (Within k v) good s d = absurd (true≢false s)
  no_digit (Wrong k v t) good s d = absurd (true≢false good)

stays : (k : ℕ) (words text : List ℕ) → steps_of (state (refused k) words) text ≡ state (refused k) words
unfolding steps_of reading_of words_of
stays k words [] = refl
stays k words (b ∷ bs) = stays k words bs

-- what is refused stays refused
pub never_whole : (k : ℕ) (words text : List ℕ) → whole_of (steps_of (state (refused k) words) text).reading ≡ true → ⊥
unfolding whole_of
never_whole k words text h = let w = rw (stays k words text) at h in let z : ◌≡◌ {A = ℕ} 0 1 = cc in omega arith
