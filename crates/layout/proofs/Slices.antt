-- Lengths of slices: powers of two that divide H. Assumes nothing.
use Prim.Native.Nat.{ℕ, ◌+◌, ◌-◌, ◌*◌, ◌/◌, ◌%◌, ◌^◌, ◌<◌, ◌≤◌, max}
use mathlib.Core.Path.{◌≡◌, sym, ap, ◌∙◌}
use native.Mathlib.Nat.{max-eq_left, max-eq_right, mul-le-mul, div-mul-le_self, lt-div-mul-add, mul-mod_left}
use native.Mathlib.Decide.{dec_le}
use native.Mathlib.Omega.{arith}
use lib.Pow.{pow_pos, pow_mono, pow-add}
use borrow.Author.Tests.{le-leb, lt-leb}
use Rattle.layout.specs.Placing.{height, slice_length, round_up, opened}

pub slice-tall : (l h : ℕ) → l ≤ h → slice_length l h ≡ 2 ^ h
unfolding slice_length
slice-tall l h e = max-eq_left (pow_mono e)

pub slice-short : (l h : ℕ) → h ≤ l → slice_length l h ≡ 2 ^ l
unfolding slice_length
slice-short l h e = max-eq_right (pow_mono e)

-- a slice's length is a power of two
pub slice_power : (l h : ℕ) → slice_length l h ≡ 2 ^ max h l
slice_power l h = by_case (dec_le l h)
  where
    by_case : Dec (l ≤ h) → slice_length l h ≡ 2 ^ max h l
    by_case (yes e) = slice-tall l h e ∙ ap (λ (k : ℕ). 2 ^ k) (sym (max-eq_left e))
    by_case (no e) =
        let f : h ≤ l = omega arith in
        slice-short l h f ∙ ap (λ (k : ℕ). 2 ^ k) (sym (max-eq_right f))

pub slice-pos : (l h : ℕ) → 0 < slice_length l h
slice-pos l h = omega (arith, slice_power l h, pow_pos (max h l))

pub slice-small : (l h k : ℕ) → l ≤ k → h ≤ k → slice_length l h ≤ 2 ^ k
slice-small l h k a b = omega (arith, slice_power l h, pow_mono {i = max h l} {j = k} (omega arith))

-- a power of two divides a larger one
pub power_divides : (i j : ℕ) → i ≤ j → 2 ^ j ≡ 2 ^ i * 2 ^ (j - i)
power_divides i j e =
    let s : j ≡ i + (j - i) = omega arith in
    ap (λ (k : ℕ). 2 ^ k) s ∙ pow-add 2 i (j - i)

pub slice_divides : (l n h : ℕ) → h ≤ l + n → height l n ≡ slice_length l h * 2 ^ (l + n - max h l)
slice_divides l n h e =
    power_divides (max h l) (l + n) (omega arith)
    ∙ ap (λ (x : ℕ). x * 2 ^ (l + n - max h l)) (sym (slice_power l h))

-- the cells of a matrix
pub cells-small : (l h w : ℕ) → l ≤ 24 → h ≤ 24 → w ≤ 4096 → w * slice_length l h ≤ 2 ^ 36
cells-small l h w a b c =
    omega (arith, mul-le-mul {n₁ = w} {m₁ = slice_length l h} {n₂ = 4096} {m₂ = 2 ^ 24} c (slice-small l h 24 a b))

-- rounding up
pub round_least : (h s : ℕ) → round_up h s ≤ s + (h - 1)
unfolding round_up
round_least h s = div-mul-le_self (s + (h - 1)) h

pub round_past : (h s : ℕ) → 0 < h → s ≤ round_up h s
unfolding round_up
round_past h s e = omega (arith, lt-div-mul-add {a = s + (h - 1)} {b = h} e)

pub round_multiple : (h s : ℕ) → round_up h s % h ≡ 0
unfolding round_up
round_multiple h s = mul-mod_left ((s + (h - 1)) / h) h

-- opening a stack column
pub opened_later : (l n first i s : ℕ) → first ≤ i → opened l n first i s ≡ round_up (height l n) s
unfolding opened
opened_later l n first i s e = simp (le-leb first i e)

pub opened-within : (l n first i s : ℕ) → i < first → opened l n first i s ≡ s
unfolding opened
opened-within l n first i s e = simp (lt-leb first i e)

pub opened_past : (l n first i s : ℕ) → s ≤ opened l n first i s
opened_past l n first i s = by_case (dec_le first i)
  where
    by_case : Dec (first ≤ i) → s ≤ opened l n first i s
    by_case (yes e) = omega (arith, opened_later l n first i s e, round_past (height l n) s (pow_pos (l + n)))
    by_case (no e) = omega (arith, opened-within l n first i s (omega arith))

pub opened_least : (l n first i s : ℕ) → opened l n first i s ≤ s + (height l n - 1)
opened_least l n first i s = by_case (dec_le first i)
  where
    by_case : Dec (first ≤ i) → opened l n first i s ≤ s + (height l n - 1)
    by_case (yes e) = omega (arith, opened_later l n first i s e, round_least (height l n) s)
    by_case (no e) = omega (arith, opened-within l n first i s (omega arith))

-- a matrix of width 0 takes no cells
pub empty_adds : (s w x : ℕ) → w ≡ 0 → s ≡ s + w * x
empty_adds s w x e = omega (arith, ap (λ (k : ℕ). k * x) e)
