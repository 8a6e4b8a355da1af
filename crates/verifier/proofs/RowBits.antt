-- The eq kernel of a row's bits, over plain variables: a coordinate more in front, from the last one down.
use mathlib.Core.Path.{◌≡◌, sym, ◌∙◌, ap, ap₂}
use mathlib.Core.List.{List}
use Prim.Native.Nat.{ℕ, ◌+◌, ◌-◌, ◌*◌, ◌/◌, ◌%◌, ◌^◌, ◌<◌, ◌≤◌}
use native.Mathlib.Omega.{arith}
use lib.Pow.{shr-shr}
use Rattle.algebra.specs.Multilinear.{bit_factor, cube_factor}
use Rattle.algebra.proofs.Powers.{shift_exact}
use Rattle.field.specs.Element.{F, ◌⊗◌, elem_of, words_of}
use Rattle.field.specs.Slice.{elem_at}
use Rattle.field.proofs.Elements.{elem_of_words}
use Rattle.tables.specs.Points.{coordinates}
use Rattle.tables.proofs.PointLaws.{coordinates_front, coordinates_end, coordinates_whole}
use Rattle.layout.specs.Placing.{row_of}
use Rattle.verifier.specs.RowKernels.{spot_of, row_weight, bits_from, low_bits, upper_weight, upper_of}

module _ (xs : List ℕ) (i m spot : ℕ) where
  pub bits_start : {a : List ℕ} → a ≡ words_of F.one → a ≡ words_of (bits_from xs i m spot m)
  unfolding bits_from cube_factor
  bits_start e = e ∙ ap (λ l. words_of (cube_factor F l (spot / 2 ^ m))) (sym (coordinates_end xs i m))

  pub bits_turn : (j : ℕ) → 0 < j → j ≤ m → {a u f r : List ℕ} → a ≡ words_of (bits_from xs i m spot j) → u ≡ words_of (elem_at xs (i + (j - 1)))
      → f ≡ words_of (bit_factor F (elem_of u) (spot / 2 ^ (j - 1) % 2)) → r ≡ words_of (elem_of f ⊗ elem_of a) → r ≡ words_of (bits_from xs i m spot (j - 1))
  unfolding bits_from cube_factor
  bits_turn j lo hi ea eu ef er =
      er
      ∙ ap₂ (λ u v. words_of (u ⊗ v)) (elem_of_words _ ef ∙ ap (λ v. bit_factor F v (spot / 2 ^ (j - 1) % 2)) (elem_of_words _ eu))
      (elem_of_words _ ea ∙ ap (cube_factor F (coordinates xs (i + j) (m - j))) halved)
      ∙ ap (λ l. words_of (cube_factor F l (spot / 2 ^ (j - 1)))) (sym (coordinates_front xs i m j lo hi))
    where
      back : j ≡ j - 1 + 1
      back = omega arith

      halved : spot / 2 ^ j ≡ spot / 2 ^ (j - 1) / 2
      halved = ap (λ k. spot / 2 ^ k) back ∙ sym (shr-shr spot (j - 1) 1)

  pub bits_end : (j : ℕ) → j ≤ 0 → {a : List ℕ} → a ≡ words_of (bits_from xs i m spot j) → a ≡ words_of (cube_factor F (coordinates xs i m) spot)
  unfolding bits_from
  bits_end j h e =
      let z : j ≡ 0 = omega arith in
      let one : spot / 2 ^ 0 ≡ spot = omega arith in
      e ∙ ap₂ (λ l k. words_of (cube_factor F l k)) (coordinates_whole xs i m j h) (ap (λ k. spot / 2 ^ k) z ∙ one)

-- from the starting row to its spot
pub spot_is : (l n h s lift : ℕ) → l + n ≤ 24 → lift ≡ h - l → s % (1 * 2 ^ (l + n) % 18446744073709551616) / 2 ^ (l + lift) ≡ spot_of l n h s
unfolding spot_of
spot_is l n h s lift small e =
    ap (λ k. s % k / 2 ^ (l + lift)) (shift_exact (l + n) 64 (omega arith)) ∙ ap (λ k. row_of l n s / 2 ^ (l + k)) e ∙ sym (shr-shr (row_of l n s) l (h - l))

-- the factor of the bits past the lowest ones
pub upper_is : (n lift low upper : ℕ) (us : List ℕ) → low ≡ low_bits n lift → {r : List ℕ}
    → r ≡ words_of (cube_factor F (coordinates us (1 + lift + low) (n - lift - low)) upper) → record { lift = lift; upper = upper; weight = r } ≡ upper_of n lift upper us
unfolding upper_weight
upper_is n lift low upper us e er =
    ap (λ (x : List ℕ). record { lift = lift; upper = upper; weight = x }) (er ∙ ap (λ k. words_of (cube_factor F (coordinates us (1 + lift + k) (n - lift - k)) upper)) e)

-- and the lowest ones
module _ (l n h s lift low spot : ℕ) (us : List ℕ) (is-lift : lift ≡ h - l) (is-low : low ≡ low_bits n lift) (is-spot : spot ≡ spot_of l n h s) where
  pub upper_given : {a : List ℕ} → a ≡ words_of (upper_weight n (h - l) (spot_of l n h s / 2 ^ low_bits n (h - l)) us) → a ≡ words_of (bits_from us (1 + lift) (n - lift) spot low)
  unfolding upper_weight bits_from
  upper_given e =
      e ∙ sym (ap₂ (λ p q. words_of (cube_factor F (coordinates us (1 + lift + q) (n - lift - q)) (p / 2 ^ q))) is-spot is-low
      ∙ ap (λ k. words_of (cube_factor F (coordinates us (1 + k + low_bits n k) (n - k - low_bits n k)) (spot_of l n h s / 2 ^ low_bits n k))) is-lift)

  pub row_is : {r : List ℕ} → r ≡ words_of (cube_factor F (coordinates us (1 + lift) (n - lift)) spot) → r ≡ words_of (row_weight l n h s us)
  unfolding row_weight
  row_is er = er ∙ ap₂ (λ k p. words_of (cube_factor F (coordinates us (1 + k) (n - k)) p)) is-lift is-spot
