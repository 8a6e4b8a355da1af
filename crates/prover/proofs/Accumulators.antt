-- Accumulators: the room that is left after so many terms, and the number modulo p.
use Rattle.std.proofs.Common.{◌≡◌, ℕ, ◌+◌, ◌*◌, ◌/◌, ◌%◌, ◌^◌, ◌<◌, ◌≤◌, sym, ap, ◌∙◌, arith}
use native.Mathlib.Nat.{add-mul-mod_self_left}
use Rattle.prover.specs.Accumulated.{rest, held, Took, Room, Few}
use Rattle.prover.specs.declared.accumulator.Acc.{Acc}

-- lo less what hi has of it
pub rest_is : (s : Acc) {r : ℕ} → r < 2 ^ 64 → (r + s.hi % 16777216 * 1099511627776) % 2 ^ 64 ≡ s.lo → r ≡ rest s
unfolding rest
rest_is s h e = omega arith

rest_sum : (s : Acc) → (rest s + s.hi % 16777216 * 1099511627776) % 18446744073709551616 ≡ s.lo % 18446744073709551616
unfolding rest
rest_sum s = omega arith

around : (h x : ℕ) → (h + x) % 16777216 * 1099511627776 + 18446744073709551616 * ((h % 16777216 + x) / 16777216) ≡ h % 16777216 * 1099511627776 + 1099511627776 * x
around h x = omega arith

same_plus : (u w z : ℕ) → u % 18446744073709551616 ≡ w % 18446744073709551616 → (u + z) % 18446744073709551616 ≡ (w + z) % 18446744073709551616
same_plus u w z e = omega arith

-- one term more, x above and y below 2^40
rest_more : (s r : Acc) (x y : ℕ) → rest s ≤ 2 ^ 63 → y < 1099511627776 → r.lo ≡ (s.lo + (1099511627776 * x + y)) % 18446744073709551616 → r.hi ≡ s.hi + x → rest r ≡ rest s + y
rest_more s r x y h k e f =
    sym
    (rest_is r (omega arith)
    (ap (λ n. (rest s + y + n % 16777216 * 1099511627776) % 18446744073709551616) f
    ∙ sym (add-mul-mod_self_left (rest s + y + (s.hi + x) % 16777216 * 1099511627776) 18446744073709551616 ((s.hi % 16777216 + x) / 16777216))
    ∙ ap (λ n. n % 18446744073709551616) moved ∙ same_plus _ _ (1099511627776 * x + y) (rest_sum s) ∙ sym e))
  where
    moved : rest s + y + (s.hi + x) % 16777216 * 1099511627776 + 18446744073709551616 * ((s.hi % 16777216 + x) / 16777216) ≡ rest s + s.hi % 16777216 * 1099511627776 + (1099511627776 * x + y)
    moved = omega (arith, around s.hi x)

pub took : (s r : Acc) (x : ℕ) → x < 2 ^ 64 → rest s ≤ 2 ^ 63 → r.lo ≡ (s.lo + x) % 18446744073709551616 → r.hi ≡ s.hi + x / 1099511627776 → Took s x r
took s r x b h e f =
    let d : x ≡ 1099511627776 * (x / 1099511627776) + x % 1099511627776 = omega arith in
    let m : rest r ≡ rest s + x % 1099511627776 = rest_more s r (x / 1099511627776) (x % 1099511627776) h (omega arith) (e ∙ ap (λ n. (s.lo + n) % 18446744073709551616) d) f in
    record { value = omega arith; low = omega arith; high = omega arith }

-- no more than g terms of 64 bits can have brought
pub record Within (g : ℕ) (s : Acc) : Type 0 where
  pub low : rest s ≤ g * 1099511627775
  pub high : s.hi ≤ g * 16777215

rest_none : {s : Acc} → s.lo ≡ 0 → s.hi ≡ 0 → rest s ≡ 0
unfolding rest
rest_none e f = omega arith

pub held_none : {s : Acc} → s.lo ≡ 0 → s.hi ≡ 0 → held s ≡ 0
held_none {s} e f = let z : rest s ≡ 0 = rest_none e f in omega arith

pub within_none : {s : Acc} → s.lo ≡ 0 → s.hi ≡ 0 → Within 0 s
within_none {s} e f = let z : rest s ≡ 0 = rest_none e f in record { low = omega arith; high = omega arith }

pub within_more : {g x : ℕ} {s r : Acc} → Within g s → Took s x r → Within (g + 1) r
within_more h t = record { low = omega arith; high = omega arith }

-- room for one term more, of at most 8,388,608, and for the reduction of at most 256
pub room : {g n : ℕ} {s : Acc} → g ≤ n → n ≤ 8388608 → Within g s → Room s
room k l h = record { low = omega arith; high = omega arith }

pub room_few : {g n : ℕ} {s : Acc} → g ≤ n → n ≤ 256 → Within g s → Few s
room_few k l h = record { low = omega arith; high = omega arith }
