-- Where a column stands among the values that are left of all stack columns, from its first cell counted through them.
use Rattle.std.proofs.Common.{◌≡◌, ℕ, ◌+◌, ◌-◌, ◌*◌, ◌/◌, ◌%◌, ◌^◌, ◌<◌, ◌≤◌, sym, ap, ◌∙◌, ap₂, arith}
use native.Mathlib.Nat
use Rattle.algebra.proofs.Powers.{two_pow-pos, two_pow-add}
use Rattle.layout.specs.Placing.{row_of}
use Rattle.weights.specs.Fits.{Fits}
use Rattle.weights.proofs.Blocks.{row-spot}
use Rattle.weights.proofs.WindowSums.{window-inside}

-- 2^j is 2 · 2^(j − 1)
pub twice : (a b : ℕ) → a ≡ b + 1 → 2 ^ a ≡ 2 * 2 ^ b
twice a b e = ap (λ k. 2 ^ k) e ∙ two_pow-add b 1 ∙ Nat.mul_comm (2 ^ b) 2

module _ (l n s : ℕ) where
  cells : (j : ℕ) → j ≤ n → 2 ^ (l + j) * (2 ^ (n - j) * (s / 2 ^ (l + n))) + s % 2 ^ (l + n) ≡ s
  cells j k =
      ap (λ m. m + s % 2 ^ (l + n))
      (sym (Nat.mul_assoc (2 ^ (l + j)) (2 ^ (n - j)) (s / 2 ^ (l + n)))
      ∙ ap (λ m. m * (s / 2 ^ (l + n))) (sym (two_pow-add (l + j) (n - j)) ∙ ap (λ m. 2 ^ m) {x = l + j + (n - j)} {y = l + n} (omega arith)))
      ∙ Nat.div-add-mod s (2 ^ (l + n))

  pub place_is : (j : ℕ) → j ≤ n → s / 2 ^ (l + j) ≡ s / 2 ^ (l + n) * 2 ^ (n - j) + s % 2 ^ (l + n) / 2 ^ l / 2 ^ j
  place_is j k =
      ap (λ m. m / 2 ^ (l + j)) (sym (cells j k))
      ∙ Nat.mul-add-div (two_pow-pos (l + j)) (2 ^ (n - j) * (s / 2 ^ (l + n))) (s % 2 ^ (l + n))
      ∙ ap₂ ◌+◌ (Nat.mul_comm (2 ^ (n - j)) (s / 2 ^ (l + n)))
      (ap (λ m. s % 2 ^ (l + n) / m) (two_pow-add l j) ∙ sym (Nat.div-div-eq-div-mul (s % 2 ^ (l + n)) (2 ^ l) (2 ^ j)))

  -- the bit of round j
  pub bit_is : (j : ℕ) → 1 ≤ j → j ≤ n → s / 2 ^ (l + j - 1) % 2 ≡ s % 2 ^ (l + n) / 2 ^ l / 2 ^ (j - 1) % 2
  bit_is j h k =
      ap (λ m. s / 2 ^ m % 2) {x = l + j - 1} {y = l + (j - 1)} (omega arith)
      ∙ ap (λ m. m % 2) (place_is (j - 1) (omega arith) ∙ ap (λ m. m + s % 2 ^ (l + n) / 2 ^ l / 2 ^ (j - 1)) even)
      ∙ past (s / 2 ^ (l + n) * 2 ^ (n - j)) (s % 2 ^ (l + n) / 2 ^ l / 2 ^ (j - 1))
    where
      even : s / 2 ^ (l + n) * 2 ^ (n - (j - 1)) ≡ 2 * (s / 2 ^ (l + n) * 2 ^ (n - j))
      even =
          ap (λ m. s / 2 ^ (l + n) * m) (twice (n - (j - 1)) (n - j) (omega arith))
          ∙ Nat.mul_left_comm (s / 2 ^ (l + n)) 2 (2 ^ (n - j))

      past : (x y : ℕ) → (2 * x + y) % 2 ≡ y % 2
      past x y = omega arith

-- in the rounds up to n_lift a column starts at an even value
pub even_place : {l n h s : ℕ} → Fits l n h s → (j : ℕ) → 1 ≤ j → j ≤ h - l → j ≤ n → s / 2 ^ (l + j - 1) ≡ 2 * (s / 2 ^ (l + j))
even_place {l} {n} {h} {s} f j a b k =
    ap (λ m. m / 2 ^ (l + j - 1)) (whole ∙ ap (λ m. m * c) (twice (l + j) (l + j - 1) (omega arith) ∙ Nat.mul_comm 2 (2 ^ (l + j - 1))) ∙ Nat.mul_assoc (2 ^ (l + j - 1)) 2 c)
    ∙ Nat.mul-div_cancel_left (2 * c) (two_pow-pos (l + j - 1))
    ∙ ap (λ m. 2 * m) (sym (ap (λ m. m / 2 ^ (l + j)) whole ∙ Nat.mul-div_cancel_left c (two_pow-pos (l + j))))
  where
    spot : ℕ
    spot = row_of l n s / 2 ^ l / 2 ^ (h - l)

    c : ℕ
    c = 2 ^ (n - j) * (s / 2 ^ (l + n)) + 2 ^ (h - l - j) * spot

    row : s % 2 ^ (l + n) ≡ 2 ^ (l + j) * (2 ^ (h - l - j) * spot)
    row =
        row-spot f
        ∙ ap (λ m. 2 ^ l * (m * spot)) (ap (λ m. 2 ^ m) {x = h - l} {y = j + (h - l - j)} (omega arith) ∙ two_pow-add j (h - l - j))
        ∙ ap (λ m. 2 ^ l * m) (Nat.mul_assoc (2 ^ j) (2 ^ (h - l - j)) spot)
        ∙ sym (Nat.mul_assoc (2 ^ l) (2 ^ j) (2 ^ (h - l - j) * spot))
        ∙ ap (λ m. m * (2 ^ (h - l - j) * spot)) (sym (two_pow-add l j))

    whole : s ≡ 2 ^ (l + j) * c
    whole =
        sym (cells l n s j k) ∙ ap (λ m. 2 ^ (l + j) * (2 ^ (n - j) * (s / 2 ^ (l + n))) + m) row
        ∙ sym (Nat.mul-add (2 ^ (l + j)) (2 ^ (n - j) * (s / 2 ^ (l + n))) (2 ^ (h - l - j) * spot))

-- a column's values lie among those that are left
pub place_inside : {l n h s : ℕ} → Fits l n h s → (j stacked : ℕ) → j ≤ n → s / 2 ^ (l + n) < stacked → s / 2 ^ (l + j) + 2 ^ (h - l - j) ≤ stacked * 2 ^ (n - j)
place_inside {l} {n} {h} {s} f j stacked k inside =
    rw (place_is l n s j k)
    (omega (arith, window-inside f j k, rows, Nat.mul-le-mul_right (2 ^ (n - j)) inside))
  where
    rows : (s / 2 ^ (l + n) + 1) * 2 ^ (n - j) ≡ s / 2 ^ (l + n) * 2 ^ (n - j) + 2 ^ (n - j)
    rows = Nat.add-mul (s / 2 ^ (l + n)) 1 (2 ^ (n - j)) ∙ ap (λ m. s / 2 ^ (l + n) * 2 ^ (n - j) + m) (Nat.one-mul (2 ^ (n - j)))
