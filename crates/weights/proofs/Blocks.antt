-- Placement in units of N = 2^l_skip rows: with B = starting row / N and m = n_lift, a column takes 2^m units from B on, and B is a multiple of 2^m.
use mathlib.Core.Path.{◌≡◌, sym, ◌∙◌, ap}
use mathlib.Core.Logic.{◌⊎◌, inl, inr}
use Prim.Native.Nat.{ℕ, ◌+◌, ◌*◌, ◌-◌, ◌/◌, ◌^◌, ◌<◌, ◌≤◌, min, max}
use native.Mathlib.Nat
use native.Mathlib.Omega.{arith}
use Rattle.algebra.proofs.Powers.{two_pow-pos, two_pow-add}
use Rattle.layout.specs.Placing.{height, slice_length, row_of}
use Rattle.weights.specs.Fits.{Fits}

module _ (l h : ℕ) where
  -- the powers that the rows stand at, and the gap to l_skip; the same and the lift
  pub order_gap : min l h + (l - h) ≡ l
  order_gap = Nat.add_comm (min l h) (l - h) ∙ Nat.sub-add-min_cancel l h

  pub order_lift : min l h + (h - l) ≡ h
  order_lift = Nat.add_comm (min l h) (h - l) ∙ ap (λ k. h - l + k) (Nat.min_comm l h) ∙ Nat.sub-add-min_cancel h l

  pub rows_order : 2 ^ min l h * 2 ^ (h - l) ≡ 2 ^ h
  rows_order = sym (two_pow-add (min l h) (h - l)) ∙ ap (λ k. 2 ^ k) order_lift

  -- a column takes 2^m blocks
  pub slice-blocks : slice_length l h ≡ 2 ^ l * 2 ^ (h - l)
  unfolding slice_length
  slice-blocks = side (Nat.eq-zero-or-pos (h - l))
    where
      side : (h - l ≡ 0) ⊎ (0 < h - l) → max (2 ^ h) (2 ^ l) ≡ 2 ^ l * 2 ^ (h - l)
      side (inl e) =
          Nat.max-eq_right (Nat.pow-le-pow_right (omega arith) {i = h} {j = l} (omega arith)) ∙ sym (Nat.mul-one (2 ^ l))
          ∙ ap (λ k. 2 ^ l * 2 ^ k) (sym e)
      side (inr p) =
          Nat.max-eq_left (Nat.pow-le-pow_right (omega arith) {i = l} {j = h} (omega arith))
          ∙ ap (λ k. 2 ^ k) {x = h} {y = l + (h - l)} (omega arith) ∙ two_pow-add l (h - l)

module _ {l n h s : ℕ} (f : Fits l n h s) where
  pub lift_fits : h - l ≤ n
  lift_fits = omega arith

  -- the place among windows of 2^m blocks
  abbrev spot : ℕ
  spot = row_of l n s / 2 ^ l / 2 ^ (h - l)

  pub row-spot : row_of l n s ≡ 2 ^ l * (2 ^ (h - l) * spot)
  row-spot =
      sym (Nat.div-add-mod (row_of l n s) (slice_length l h)) ∙ ap (λ k. slice_length l h * (row_of l n s / slice_length l h) + k) f.aligned
      ∙ Nat.add-zero _ ∙ ap (λ k. k * (row_of l n s / k)) (slice-blocks l h) ∙ Nat.mul_assoc (2 ^ l) (2 ^ (h - l)) _
      ∙ ap (λ k. 2 ^ l * (2 ^ (h - l) * k)) (sym (Nat.div-div-eq-div-mul (row_of l n s) (2 ^ l) (2 ^ (h - l))))

  pub block-spot : row_of l n s / 2 ^ l ≡ 2 ^ (h - l) * spot
  block-spot = ap (λ k. k / 2 ^ l) row-spot ∙ Nat.mul-div_cancel_left (2 ^ (h - l) * spot) (two_pow-pos l)

  pub row_block : row_of l n s ≡ 2 ^ l * (row_of l n s / 2 ^ l)
  row_block = row-spot ∙ ap (λ k. 2 ^ l * k) (sym block-spot)

  pub spot-small : spot < 2 ^ (n - (h - l))
  spot-small =
      Nat.lt_of_mul-lt-mul_left (2 ^ (h - l))
      (Nat.lt_of_mul-lt-mul_left (2 ^ l) {m = 2 ^ (h - l) * spot} (rw (← row-spot, size) (Nat.mod-lt s (two_pow-pos (l + n)))))
    where
      size : 2 ^ l * (2 ^ (h - l) * 2 ^ (n - (h - l))) ≡ height l n
      size =
          ap (λ k. 2 ^ l * k) (sym (two_pow-add (h - l) (n - (h - l))) ∙ ap (λ k. 2 ^ k) (Nat.add-sub_of_le lift_fits)) ∙ sym (two_pow-add l n)
