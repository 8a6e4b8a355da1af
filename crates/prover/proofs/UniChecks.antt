-- The returns of `uni_number`: from the tests of what the fold at u_0 takes to their one number, the matrices' words left open where
-- nothing else is wrong.
use Rattle.std.proofs.Common.{◌≡◌, ℕ, zero, suc, ◌+◌, ◌*◌, ◌%◌, ◌^◌, ◌≤◌, Bool, true, false, not, List, length, sym, refl, ap, ◌∙◌, arith}
use mathlib.Core.Path.{subst⁻¹}
use native.Mathlib.Decide.{ℕ_discrete}
use Rattle.field.specs.Slice.{canonical_words, canonical_four}
use Rattle.std.specs.declared.result.Result.{Result}
use Rattle.field.specs.declared.answer.Refusal.{Refusal}
use Rattle.field.specs.Number.{number_of}
use Rattle.layout.specs.Answers.{answer_of}
use Rattle.layout.proofs.Answered.{number-answer}
use Rattle.layout.proofs.LowNumbers.{low, both}
use Rattle.layout.specs.Checks.{refuse, or_else, length_number, word_number}
use Rattle.layout.proofs.Firsts.{or_skip, or_stop, skip, stop}
use Rattle.layout.proofs.CheckChains.{length_skip, length_stop, scan_skip, scan_stop, scan_no, scan_yes}
use Rattle.prover.specs.CallNumbers.{point_number, uni_words}
use Rattle.prover.proofs.WordChecks.{matrices_are, matrices-not}

-- a scan before one that fails
before : (t : Bool) (b : ℕ) → 10 ≡ b → 10 ≡ or_else (refuse 10 t) b
unfolding refuse or_else
before true b e = refl
before false b e = e

-- a check before one that passes
alone : (a b : ℕ) → b ≡ 0 → a ≡ or_else a b
unfolding or_else
alone zero b e = sym e
alone (suc a) b e = refl

not_nine : (t : Bool) → refuse 10 t ≡ 9 → ⊥
unfolding refuse
not_nine true e = omega arith
not_nine false e = omega arith

module _ (l n width : ℕ) (r lambda matrices u eq : List ℕ) (few : width ≤ 2 ^ 30) (most : l + n ≤ 24) where
  -- a number that leaves the matrices' words open
  abbrev pub Leaves : ℕ → Type 0
  Leaves m = or_else m (word_number matrices) ≡ uni_words l n width r lambda matrices u eq

  sure : (m : ℕ) → (m ≡ 0 → ⊥) → m ≡ uni_words l n width r lambda matrices u eq → Leaves m
  sure m h e = or_stop m _ h ∙ e

  pub uni_length : (length matrices ≡ width * 2 ^ (l + n) % 18446744073709551616 → ⊥) → Leaves 9
  unfolding uni_words
  uni_length h = sure 9 (λ z. omega arith) (length_stop _ _ _ (matrices-not (length matrices) width (l + n) few most h))

  -- where nothing is wrong so far, the matrices are as long as they should be
  pub uni_long : Leaves 0 → length matrices ≡ width * 2 ^ (l + n)
  unfolding uni_words
  uni_long e = by (ℕ_discrete (length matrices) (width * 2 ^ (l + n)))
    where
      by : Dec (length matrices ≡ width * 2 ^ (l + n)) → length matrices ≡ width * 2 ^ (l + n)
      by (yes h) = h
      by (no h) = absurd (not_nine _ (sym (or_skip 0 _ refl) ∙ e ∙ sym (length_stop _ _ _ h)))

  module _ (long : length matrices ≡ width * 2 ^ (l + n) % 18446744073709551616) {p : ℕ} (scan-point : p ≡ point_number r lambda) where
    past_length : {m b : ℕ} → m ≡ b → m ≡ or_else (length_number (length matrices) (width * 2 ^ (l + n))) b
    past_length e = length_skip _ _ _ (matrices_are (length matrices) width (l + n) few most long) e

    uni_point_number : (p ≡ 0 → ⊥) → Leaves p
    unfolding uni_words
    uni_point_number h = sure p h (past_length (stop _ _ _ scan-point h))

    point_small : p ≤ 11
    unfolding point_number
    point_small = subst⁻¹ (λ k. k ≤ 11) scan-point (both (low 10 _ (omega arith)) (low 10 _ (omega arith)))

    -- its answer, handed on
    pub uni_point : (s : Result (Unit {0}) Refusal) → s ≡ answer_of p → (p ≡ 0 → ⊥) → Leaves (number_of s)
    uni_point s e h = subst⁻¹ Leaves {x = number_of s} {y = p} (ap number_of e ∙ number-answer p ∙ omega (arith, point_small)) (uni_point_number h)

    module _ (fine-point : p ≡ 0) {a : Bool} (scan-u : a ≡ canonical_four u) where
      past_point : {m b : ℕ} → m ≡ b → m ≡ or_else (length_number (length matrices) (width * 2 ^ (l + n))) (or_else (point_number r lambda) b)
      past_point e = past_length (skip _ _ (sym scan-point ∙ fine-point) e)

      pub uni_u : not a ≡ true → Leaves 10
      unfolding uni_words
      uni_u h = sure 10 (λ z. omega arith) (past_point (scan_stop _ _ scan-u h))

      module _ (fine-u : not a ≡ false) {c : Bool} (scan-eq : c ≡ canonical_words eq) where
        pub uni_eq_lem : not c ≡ true → Leaves 10
        unfolding uni_words
        uni_eq_lem h = sure 10 (λ z. omega arith) (past_point (scan_skip _ _ scan-u fine-u (before _ _ (scan_no _ scan-eq h))))

        pub uni_fine : not c ≡ false → Leaves 0
        unfolding uni_words
        uni_fine h = or_skip 0 _ refl ∙ past_point (scan_skip _ _ scan-u fine-u (alone _ _ (sym (scan_yes _ scan-eq h))))
