-- What holds where `rows_number` is 0 or not: the sizes, and what the calls leave. Assumes nothing.
use Prim.Native.Nat.{ℕ, ◌*◌, ◌^◌, ◌<◌, ◌≤◌}
use mathlib.Core.Path.{◌≡◌, ap, ◌∙◌}
use mathlib.Core.Logic.{◌⊎◌, inl, inr}
use mathlib.Core.List.{List}
use native.Mathlib.Omega.{arith}
use native.Mathlib.Nat
use native.Mathlib.Nat.{pow-succ'}
use lib.ListN.{length}
use lib.Count.{ones, count_trailing_zeros}
use borrow.Author.Tests.{eqb-true, eq-eqb, ne_eqb, ltb-false, not-false}
use Rattle.std.proofs.lemmas.Bool.{cases_lt}
use Rattle.layout.proofs.Firsts.{or_passed, is_false}
use Rattle.layout.proofs.CheckChains.{length_is}
use Rattle.storage.specs.Rows.{stored_rows, stacked_columns}
use Rattle.storage.specs.Storing.{size_number, rows_number, stored_into, loaded_into}
use Rattle.storage.proofs.OneBit.{one_bit}

pub record Sized (w h : ℕ) : Type 0 where
  pub narrow : w ≤ 4096
  pub low : h ≤ 16777216
  pub one : ones h ≡ 1

sized : (w h : ℕ) → size_number w h ≡ 0 → Sized w h
unfolding size_number
sized w h e =
    let a = or_passed _ _ e in
    let b = or_passed _ _ a.1 in
    record {
      narrow = ltb-false _ _ (is_false 2 _ (omega arith) b.0);
      low = ltb-false _ _ (is_false 1 _ (omega arith) a.0);
      one = eqb-true _ _ (not-false _ (is_false 3 _ (omega arith) b.1));
    }

-- a height of one bit is the power of two of its trailing zeros
pub height_is : (w h : ℕ) → Sized w h → h ≡ 2 ^ count_trailing_zeros 32 h
height_is w h s = (one_bit 32 h (omega (arith, s.low)) s.one).0

pub bits_few : (w h : ℕ) → Sized w h → count_trailing_zeros 32 h ≤ 24
bits_few w h s = by (count_trailing_zeros 32 h) (height_is w h s) (cases_lt 24 (count_trailing_zeros 32 h))
  where
    by : (k : ℕ) → h ≡ 2 ^ k → (24 < k) ⊎ (k ≤ 24) → k ≤ 24
    by k e (inl g) = let p : 2 ^ 25 ≤ 2 ^ k = Nat.pow-le-pow_right {n = 2} (omega arith) {i = 25} {j = k} g in absurd (omega (arith, s.low))
    by k e (inr l) = l

pub record Accepted (w h from to : ℕ) : Type 0 where
  pub narrow : w ≤ 4096
  pub few : count_trailing_zeros 32 h ≤ 24
  pub source : from ≡ w * 2 ^ count_trailing_zeros 32 h
  pub target : to ≡ w * 2 ^ count_trailing_zeros 32 h

pub accepted : (w h : ℕ) (xs : List ℕ) (to : ℕ) → rows_number w h xs to ≡ 0 → Accepted w h (length xs) to
unfolding rows_number
accepted w h xs to z =
    let a = or_passed _ _ z in
    let b = or_passed _ _ a.1 in
    let d = or_passed _ _ b.1 in
    let s = sized w h a.0 in
    let k = ap (λ n. w * n) (height_is w h s) in
    record { narrow = s.narrow; few = bits_few w h s; source = length_is _ _ b.0 ∙ k; target = length_is _ _ d.0 ∙ k }

module _ (w h : ℕ) (xs out : List ℕ) where
  pub stored_not : (rows_number w h xs (length out) ≡ 0 → ⊥) → out ≡ stored_into w h xs out
  unfolding stored_into
  stored_not z = simp (ne_eqb (rows_number w h xs (length out)) 0 z)

  pub stored_done : rows_number w h xs (length out) ≡ 0 → stored_rows w (count_trailing_zeros 32 h) xs ≡ stored_into w h xs out
  unfolding stored_into
  stored_done z = simp (eq-eqb (rows_number w h xs (length out)) 0 z)

  pub loaded_not : (rows_number w h xs (length out) ≡ 0 → ⊥) → out ≡ loaded_into w h xs out
  unfolding loaded_into
  loaded_not z = simp (ne_eqb (rows_number w h xs (length out)) 0 z)

  pub loaded_done : rows_number w h xs (length out) ≡ 0 → stacked_columns w (count_trailing_zeros 32 h) xs ≡ loaded_into w h xs out
  unfolding loaded_into
  loaded_done z = simp (eq-eqb (rows_number w h xs (length out)) 0 z)
