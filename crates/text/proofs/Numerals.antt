-- What the reader makes of digits: their value where it is below 2³², and a wrong line where it is not. A number's printed digits have its value.
use Prim.Native.Nat.{ℕ, zero, suc, ◌+◌, ◌*◌, ◌-◌, ◌/◌, ◌%◌, ◌^◌, ◌≤◌, ◌<◌}
use mathlib.Core.Path.{◌≡◌, refl, ap, ◌∙◌}
use mathlib.Core.List.{List, [], ◌∷◌, ◌++◌}
use mathlib.Core.Logic.{⊎_elim}
use native.Mathlib.Nat.{pow-suc}
use native.Mathlib.Omega.{arith}
use lib.ListN.{length, length-append}
use borrow.Author.Tests.{le-ltb, lt-ltb, lt-leb, ne_eqb}
use Rattle.io.specs.Digits.{last_digits, hex_digit_ascii}
use Rattle.text.specs.declared.line.Place.TheVariants.{Gap, Number, Wrong}
use Rattle.text.specs.Printed.{Decimal, decimal_of}
use Rattle.text.specs.Reading.{reader, step_of, digit_place, number_place, numbers_after}
use Rattle.text.proofs.Orders.{below_or}
use Rattle.text.proofs.Counts.{decimal_text}
use Rattle.text.specs.Numeral.{value_from, Digits, steps_of}

-- a value does not fall
pub grows : (v : ℕ) (ds : List ℕ) → v ≤ value_from v ds
unfolding value_from
grows v [] = omega arith
grows v (d ∷ ds) = let h : v * 10 + (d - 48) ≤ value_from (v * 10 + (d - 48)) ds = grows (v * 10 + (d - 48)) ds in omega arith

module _ (letters count : ℕ) (word numbers : List ℕ) where
  digit : (v d : ℕ) → 48 ≤ d → d < 58 → v * 10 + (d - 48) < 4294967296 → digit_place letters count v d ≡ Number letters count (v * 10 + (d - 48))
  unfolding digit_place
  digit v d h k s = simp (le-ltb d 48 h, lt-leb 58 d k, lt-ltb (v * 10 + (d - 48)) 4294967296 s)

  in_number : (v d : ℕ) → 48 ≤ d → d < 58 → v * 10 + (d - 48) < 4294967296
      → step_of (reader (Number letters count v) word numbers) d ≡ reader (Number letters count (v * 10 + (d - 48))) word numbers
  unfolding number_place numbers_after
  in_number v d h k s = simp (ne_eqb d 32 (λ e. omega arith), digit v d h k s)

  -- digits after a number's first
  pub more_digits : (v : ℕ) (ds : List ℕ) → Digits ds → value_from v ds < 4294967296
      → steps_of (reader (Number letters count v) word numbers) ds ≡ reader (Number letters count (value_from v ds)) word numbers
  unfolding value_from Digits steps_of
  more_digits v [] w s = refl
  more_digits v (d ∷ ds) w s =
      let h : v * 10 + (d - 48) ≤ value_from (v * 10 + (d - 48)) ds = grows (v * 10 + (d - 48)) ds in
      ap (λ r. steps_of r ds) (in_number v d w.0 w.1 (omega arith)) ∙ more_digits (v * 10 + (d - 48)) ds w.2 s

  -- a number is the value of its digits
  pub number_read : (d : ℕ) (ds : List ℕ) → Digits (d ∷ ds) → value_from 0 (d ∷ ds) < 4294967296
      → steps_of (reader (Gap letters count) word numbers) (d ∷ ds) ≡ reader (Number letters count (value_from 0 (d ∷ ds))) word numbers
  unfolding value_from Digits steps_of
  number_read d ds w s =
      let h : 0 * 10 + (d - 48) ≤ value_from (0 * 10 + (d - 48)) ds = grows (0 * 10 + (d - 48)) ds in
      ap (λ p. steps_of (reader p word numbers) ds) (digit 0 d w.0 w.1 (omega arith)) ∙ more_digits (0 * 10 + (d - 48)) ds w.2 s

  wrong_digit : (v d : ℕ) → 48 ≤ d → d < 58 → 4294967296 ≤ v * 10 + (d - 48)
      → step_of (reader (Number letters count v) word numbers) d ≡ reader Wrong word numbers
  unfolding number_place numbers_after digit_place
  wrong_digit v d h k s =
      simp (ne_eqb d 32 (λ e. omega arith), le-ltb d 48 h, lt-leb 58 d k, le-ltb (v * 10 + (d - 48)) 4294967296 s)

  pub stays_wrong : (bs : List ℕ) → steps_of (reader Wrong word numbers) bs ≡ reader Wrong word numbers
  unfolding steps_of
  stays_wrong [] = refl
  stays_wrong (b ∷ bs) = stays_wrong bs

  -- a number above u32 makes the line wrong
  pub too_large : (v : ℕ) (ds : List ℕ) → v < 4294967296 → Digits ds → 4294967296 ≤ value_from v ds
      → steps_of (reader (Number letters count v) word numbers) ds ≡ reader Wrong word numbers
  unfolding value_from Digits steps_of
  too_large v [] h w s = absurd (omega arith)
  too_large v (d ∷ ds) h w s = ⊎_elim
      (λ low. ap (λ r. steps_of r ds) (in_number v d w.0 w.1 low) ∙ too_large (v * 10 + (d - 48)) ds low w.2 s)
      (λ high. ap (λ r. steps_of r ds) (wrong_digit v d w.0 w.1 high) ∙ stays_wrong ds)
      (below_or (v * 10 + (d - 48)) 4294967296)

value_last : (v d : ℕ) (ds : List ℕ) → value_from v (ds ++ (d ∷ [])) ≡ value_from v ds * 10 + (d - 48)
unfolding value_from
value_last v d [] = refl
value_last v d (x ∷ xs) = value_last (v * 10 + (x - 48)) d xs

digits_last : (d : ℕ) (ds : List ℕ) → Digits ds → 48 ≤ d → d < 58 → Digits (ds ++ (d ∷ []))
unfolding Digits
digits_last d [] w h k = (h, k, tt)
digits_last d (x ∷ xs) w h k = (w.0, w.1, digits_last d xs w.2 h k)

glyph_is : (d : ℕ) → d < 10 → hex_digit_ascii d ≡ 48 + d
glyph_is d h = simp (lt-ltb d 10 h)

-- a number's decimal digits are digits
pub digits_are : (k n : ℕ) → Digits (last_digits 10 k n)
unfolding Digits
digits_are zero n = tt
digits_are (suc k) n =
    let low : n % 10 < 10 = omega arith in
    let g = glyph_is (n % 10) low in
    digits_last (hex_digit_ascii (n % 10)) (last_digits 10 k (n / 10)) (digits_are k (n / 10)) (rw g (omega arith)) (rw g (omega arith))

-- and their value is the number
pub digits_value : (k n : ℕ) → n < 10 ^ k → value_from 0 (last_digits 10 k n) ≡ n
unfolding value_from
digits_value zero n h = omega arith
digits_value (suc k) n h =
    let low : n % 10 < 10 = omega arith in
    let tens : n < 10 ^ k * 10 = rw pow-suc at h in
    let part : n / 10 < 10 ^ k = omega arith in
    value_last 0 (hex_digit_ascii (n % 10)) (last_digits 10 k (n / 10)) ∙ rw (digits_value k (n / 10) part, glyph_is (n % 10) low) (omega arith)

digits_count : (k n : ℕ) → length (last_digits 10 k n) ≡ k
digits_count zero n = refl
digits_count (suc k) n = simp (length-append, digits_count k (n / 10)) (omega arith)

module _ (letters count : ℕ) (word numbers : List ℕ) where
  not_empty : (ds : List ℕ) → 0 < length ds → Digits ds → value_from 0 ds < 4294967296
      → steps_of (reader (Gap letters count) word numbers) ds ≡ reader (Number letters count (value_from 0 ds)) word numbers
  not_empty [] h w s = absurd (omega arith)
  not_empty (d ∷ ds) h w s = number_read letters count word numbers d ds w s

  printed_by : (x : ℕ) (text : List ℕ) → Decimal x text → x < 4294967296
      → steps_of (reader (Gap letters count) word numbers) text ≡ reader (Number letters count x) word numbers
  printed_by x text t h =
      let k = t.places in
      let v : value_from 0 (last_digits 10 k x) ≡ x = digits_value k x t.fewest.1 in
      let some : 0 < length (last_digits 10 k x) = omega (arith, digits_count k x, t.fewest.0) in
      ap (steps_of (reader (Gap letters count) word numbers)) t.spelled
      ∙ not_empty (last_digits 10 k x) some (digits_are k x) (omega arith)
      ∙ ap (λ n. reader (Number letters count n) word numbers) v

  -- what is printed of a number is read as that number
  pub printed_read : (x : ℕ) → x < 4294967296
      → steps_of (reader (Gap letters count) word numbers) (decimal_of x) ≡ reader (Number letters count x) word numbers
  printed_read x h = printed_by x (decimal_of x) (decimal_text x (omega arith)) h
