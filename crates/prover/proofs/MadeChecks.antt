-- The words of the coefficients, as the code counts them; and the returns of `made_number`: from the tests of what a call without work buffers takes to
-- their one number.
use Rattle.std.proofs.Common.{◌≡◌, ℕ, ◌+◌, ◌-◌, ◌*◌, ◌%◌, ◌^◌, ◌≤◌, Bool, true, false, not, List, length, sym, ap, ◌∙◌, arith, pow_pos, pow_mono}
use Rattle.algebra.proofs.Powers.{shift_exact}
use Rattle.field.specs.Slice.{canonical_words}
use Rattle.layout.specs.Checks.{or_else, length_number}
use Rattle.layout.proofs.Firsts.{skip, stop}
use Rattle.layout.proofs.CheckChains.{length_skip, length_stop, scan_no, scan_yes}
use Rattle.prover.specs.CallNumbers.{point_number, made_words}
use Rattle.prover.proofs.WordChecks.{matrices_are, matrices-not}

module _ (l : ℕ) (few : l ≤ 10) where
  order_is : 1 * 2 ^ (l + 1) % 18446744073709551616 ≡ 2 ^ (l + 1)
  order_is = shift_exact (l + 1) 64 (omega arith)

  pub order_some : 1 ≤ 1 * 2 ^ (l + 1) % 18446744073709551616
  order_some = omega (arith, order_is, pow_pos (l + 1))

  pub order_most : 1 * 2 ^ (l + 1) % 18446744073709551616 ≤ 2048
  order_most = omega (arith, order_is, pow_mono {i = l + 1} {j = 11} (omega arith))

  pub coefficients_are : 4 * (1 * 2 ^ (l + 1) % 18446744073709551616 - 1) ≡ 4 * (2 ^ (l + 1) - 1)
  coefficients_are = ap (λ k. 4 * (k - 1)) order_is

module _ (l n width asked : ℕ) (r lambda matrices : List ℕ) (out : ℕ) (small : (l + n ≤ 24) × (width ≤ 2 ^ 30)) where
  abbrev number : ℕ
  number = made_words l n width asked r lambda matrices out

  pub made-r : (length r ≡ 4 * (n + 1) → ⊥) → 9 ≡ number
  unfolding made_words
  made-r h = length_stop _ _ _ h

  module _ (fine-r : length r ≡ 4 * (n + 1)) where
    pub made-matrices : (length matrices ≡ width * 2 ^ (l + n) % 18446744073709551616 → ⊥) → 9 ≡ number
    unfolding made_words
    made-matrices h = length_skip _ _ _ fine-r (length_stop _ _ _ (matrices-not (length matrices) width (l + n) small.1 small.0 h))

    module _ (long : length matrices ≡ width * 2 ^ (l + n) % 18446744073709551616) where
      past_matrices : {m b : ℕ} → m ≡ b → m ≡ or_else (length_number (length r) (4 * (n + 1))) (or_else (length_number (length matrices) (width * 2 ^ (l + n))) b)
      past_matrices e = length_skip _ _ _ fine-r (length_skip _ _ _ (matrices_are (length matrices) width (l + n) small.1 small.0 long) e)

      pub made-out : (out ≡ asked → ⊥) → 9 ≡ number
      unfolding made_words
      made-out h = past_matrices (length_stop _ _ _ h)

      module _ (fine-out : out ≡ asked) {p : ℕ} (scan-point : p ≡ point_number r lambda) where
        pub made-point : (p ≡ 0 → ⊥) → p ≡ number
        unfolding made_words
        made-point h = past_matrices (length_skip _ _ _ fine-out (stop _ _ _ scan-point h))

        module _ (fine-point : p ≡ 0) {a : Bool} (scan : a ≡ canonical_words matrices) where
          pub made_words_lem : not a ≡ true → 10 ≡ number
          unfolding made_words
          made_words_lem h = past_matrices (length_skip _ _ _ fine-out (skip _ _ (sym scan-point ∙ fine-point) (scan_no _ scan h)))

          pub made_fine : not a ≡ false → 0 ≡ number
          unfolding made_words
          made_fine h = past_matrices (length_skip _ _ _ fine-out (skip _ _ (sym scan-point ∙ fine-point) (scan_yes _ scan h)))
