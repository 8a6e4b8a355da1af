-- The count of a number's decimal digits is the fewest; and what spells a number in so few digits is its text.
use Prim.Native.Nat.{ℕ, zero, suc, ◌*◌, ◌-◌, ◌/◌, ◌%◌, ◌^◌, ◌≤◌, ◌<◌}
use mathlib.Core.Path.{◌≡◌, refl, ap, ◌∙◌}
use mathlib.Core.Bool.{Bool, true, false, cond}
use mathlib.Core.List.{List, [], ◌∷◌}
use native.Mathlib.Nat.{pow-suc, one-le-pow, pow-le-pow_right}
use native.Mathlib.Omega.{arith}
use lib.ListN.{length, length-append}
use lib.Dec.{ltb, leb}
use borrow.Author.Tests.{ltb-true, ltb-false, leb-true, leb-false}
use Rattle.io.specs.Digits.{hex_digit_ascii, last_digits, IsDigitCount}
use Rattle.text.specs.Printed.{digit_count, decimal_of, hexadecimal_of, record_of, Decimal}

less_one : (n : ℕ) → suc n - 1 ≡ n
less_one n = omega arith

one_digit : (x k : ℕ) → x < 10 → IsDigitCount 10 1 x k → k ≡ 1
one_digit x zero h f = absurd (omega (arith, f.0))
one_digit x (suc zero) h f = refl
one_digit x (suc (suc j)) h f =
    let p : 10 ^ suc j ≤ x = rw (less_one (suc j)) at (f.2 (omega arith)) in
    let tens : 10 ^ j * 10 ≤ x = rw pow-suc at p in
    let some : 1 ≤ 10 ^ j = one-le-pow j 10 (omega arith) in
    absurd (omega arith)

-- a digit less
shorter : (x k : ℕ) → 10 ≤ x → IsDigitCount 10 1 x (suc k) → IsDigitCount 10 1 (x / 10) k
shorter x zero h f = absurd (omega (arith, f.1))
shorter x (suc j) h f =
    let below : x < 10 ^ suc j * 10 = rw pow-suc at f.1 in
    let most : 10 ^ suc j ≤ x = rw (less_one (suc j)) at (f.2 (omega arith)) in
    let tens : 10 ^ j * 10 ≤ x = rw pow-suc at most in
    (omega arith, omega arith, λ l. rw (less_one j) (omega arith))

-- a digit more
longer : (x k : ℕ) → 10 ≤ x → IsDigitCount 10 1 (x / 10) k → IsDigitCount 10 1 x (suc k)
longer x zero h f = absurd (omega (arith, f.0))
longer x (suc zero) h f = (omega arith, omega (arith, f.1), λ l. h)
longer x (suc (suc j)) h f =
    let below : x < 10 ^ suc (suc j) * 10 = omega (arith, f.1) in
    let most : 10 ^ suc j ≤ x / 10 = rw (less_one (suc j)) at (f.2 (omega arith)) in
    (omega arith, rw (pow-suc 10 (suc (suc j))) below, λ l. rw (less_one (suc (suc j)), pow-suc 10 (suc j)) (omega arith))

count_by : (turns x k : ℕ) → (10 ≤ x → (j : ℕ) → IsDigitCount 10 1 (x / 10) j → j ≡ digit_count turns (x / 10)) → IsDigitCount 10 1 x k
    → (t : Bool) → ltb x 10 ≡ t → k ≡ cond t 1 (suc (digit_count turns (x / 10)))
count_by turns x k r f true e = one_digit x k (ltb-true x 10 e) f
count_by turns x zero r f false e = absurd (omega (arith, f.0))
count_by turns x (suc k) r f false e = let h = ltb-false x 10 e in ap suc (r h k (shorter x k h f))

-- the fewest digits are so many
pub count_is : (turns x k : ℕ) → x < 10 ^ suc turns → IsDigitCount 10 1 x k → k ≡ digit_count turns x
unfolding digit_count
count_is zero x k h f = one_digit x k h f
count_is (suc turns) x k h f =
    let below : x < 10 ^ suc turns * 10 = rw pow-suc at h in
    count_by turns x k (λ l j g. count_is turns (x / 10) j (omega arith) g) f (ltb x 10) refl

few_by : (turns x : ℕ) → IsDigitCount 10 1 (x / 10) (digit_count turns (x / 10)) → (t : Bool) → ltb x 10 ≡ t → IsDigitCount 10 1 x (cond t 1 (suc (digit_count turns (x / 10))))
few_by turns x f true e = (omega arith, ltb-true x 10 e, λ l. absurd (omega arith))
few_by turns x f false e = longer x (digit_count turns (x / 10)) (ltb-false x 10 e) f

few_digits : (turns x : ℕ) → x < 10 ^ suc turns → IsDigitCount 10 1 x (digit_count turns x)
unfolding digit_count
few_digits zero x h = (omega arith, h, λ l. absurd (omega arith))
few_digits (suc turns) x h =
    let below : x < 10 ^ suc turns * 10 = rw pow-suc at h in
    few_by turns x (few_digits turns (x / 10) (omega arith)) (ltb x 10) refl

-- the text of a u64 is its decimal digits, as few as there can be
pub decimal_text : (x : ℕ) → x < 18446744073709551616 → Decimal x (decimal_of x)
unfolding decimal_of
decimal_text x h = record { places = digit_count 19 x; fewest = few_digits 19 x (omega arith); spelled = refl }

pub decimal_spelled : (x k : ℕ) → x < 18446744073709551616 → IsDigitCount 10 1 x k → (text : List ℕ) → text ≡ last_digits 10 k x → text ≡ decimal_of x
unfolding decimal_of
decimal_spelled x k h f text e = e ∙ ap (λ n. last_digits 10 n x) (count_is 19 x k (omega arith) f)

module _ (b least x k n : ℕ) (base : 1 ≤ b) (f : IsDigitCount b least x k) (hl : least ≤ n) (hx : x < b ^ n) where
  most_by : (t : Bool) → leb k n ≡ t → k ≤ n
  most_by true e = leb-true k n e
  most_by false e =
      let h : n < k = leb-false k n e in
      let p : b ^ (k - 1) ≤ x = f.2 (omega arith) in
      let q : b ^ n ≤ b ^ (k - 1) = pow-le-pow_right base (omega arith) in
      omega arith

  -- a number below bⁿ has no more than n digits
  pub few : k ≤ n
  few = most_by (leb k n) refl

pub hexadecimal_spelled : (x k : ℕ) → x < 18446744073709551616 → IsDigitCount 16 16 x k → (text : List ℕ) → text ≡ last_digits 16 k x → text ≡ hexadecimal_of x
unfolding hexadecimal_of
hexadecimal_spelled x k h f text e =
    let most = few 16 16 x k 16 (omega arith) f (omega arith) (omega arith) in
    let all : k ≡ 16 = omega (arith, f.0) in
    e ∙ ap (λ n. last_digits 16 n x) all

digits_length : (b k x : ℕ) → length (last_digits b k x) ≡ k
digits_length b zero x = refl
digits_length b (suc k) x = omega (arith, length-append (last_digits b k (x / b)) (hex_digit_ascii (x % b) ∷ []), digits_length b k (x / b))

pub record_length : (a b : ℕ) → length (record_of a b) ≡ 32
unfolding record_of hexadecimal_of
record_length a b = omega (arith, length-append (last_digits 16 16 a) (last_digits 16 16 b), digits_length 16 16 a, digits_length 16 16 b)

count_low_by : (turns n : ℕ) → n ≤ turns → (t : Bool) → cond t 1 (suc n) ≤ suc turns
count_low_by turns n h true = omega arith
count_low_by turns n h false = omega arith

count_low : (turns x : ℕ) → digit_count turns x ≤ suc turns
unfolding digit_count
count_low zero x = omega arith
count_low (suc turns) x = count_low_by (suc turns) (digit_count turns (x / 10)) (count_low turns (x / 10)) (ltb x 10)

pub decimal_low : (x : ℕ) → length (decimal_of x) ≤ 20
unfolding decimal_of
decimal_low x = omega (arith, digits_length 10 (digit_count 19 x) x, count_low 19 x)
