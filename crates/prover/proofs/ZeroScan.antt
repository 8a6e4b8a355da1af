-- The scan for words that are not 0, over plain variables.
use Rattle.std.proofs.Common.{◌≡◌, ℕ, ◌+◌, ◌*◌, ◌<◌, ◌≤◌, Bool, true, false, List, length, get_or, sym, ◌∙◌, true≢false, arith, below_more}
use native.Mathlib.Decide.{dec_lt}
use lib.ListN.{get_or-eq_default}
use Rattle.field.specs.Slice.{words_at}
use Rattle.prover.specs.Checked.{Zeros}
use Rattle.prover.proofs.Numbers.{four, four_words}

-- after i turns
abbrev pub ZerosTo : List ℕ → ℕ → Bool → Type 0
ZerosTo xs i ok = ok ≡ true → (j : ℕ) → j < i → get_or xs j 0 ≡ 0

module _ (xs : List ℕ) where
  pub zeros_start : (ok : Bool) → ZerosTo xs 0 ok
  zeros_start ok e j h = absurd (omega arith)

  pub zeros_bad : (i : ℕ) {ok : Bool} → ok ≡ false → ZerosTo xs i ok
  zeros_bad i f e = absurd (true≢false (sym e ∙ f))

  pub zeros-more : (i : ℕ) {ok ok' : Bool} → ZerosTo xs i ok → get_or xs i 0 ≡ 0 → ok' ≡ ok → ZerosTo xs (i + 1) ok'
  zeros-more i z h f e = below_more _ i (z (sym f ∙ e)) h

  pub zeros_end : (i : ℕ) {ok : Bool} → length xs ≤ i → ZerosTo xs i ok → ok ≡ true → Zeros xs
  zeros_end i l z e j = by (dec_lt j i)
    where
      by : Dec (j < i) → get_or xs j 0 ≡ 0
      by (yes h) = z e j h
      by (no h) = get_or-eq_default xs 0 (omega arith)

pub zero_words : (xs : List ℕ) → Zeros xs → (i : ℕ) → words_at xs i ≡ four 0 0 0 0
unfolding words_at
zero_words xs z i = four_words (z (4 * i)) (z (4 * i + 1)) (z (4 * i + 2)) (z (4 * i + 3))
