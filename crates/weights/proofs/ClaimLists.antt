-- The list of the true claims: where each column's stand, and how many there are.
use mathlib.Core.Path.{◌≡◌, refl, sym, ◌∙◌, ap, ap₂}
use mathlib.Core.Logic.{◌⊎◌, inl, inr}
use mathlib.Core.List.{List, ◌++◌}
use Prim.Native.Nat.{ℕ, zero, suc, ◌+◌, ◌<◌}
use native.Mathlib.Nat
use native.Mathlib.Nat.{eq-or-lt_of_le, le_of_suc-le-suc}
use native.Mathlib.Omega.{arith}
use lib.ListN.{length, get_or, length-append, get_or-append}
use lib.Seq.{get_or-append-add}
use Rattle.algebra.specs.Ring.{Ring}
use Rattle.weights.specs.Run.{Run}
use Rattle.weights.specs.LambdaPowers.{claims_of, claims_before}
use Rattle.weights.specs.ColumnValue.{column_value, column_rotated}
use Rattle.weights.specs.TrueClaims.{claims_with, true_before, true_claims}
use Rattle.weights.proofs.ClaimCounts.{claims-some, claims_two, claims-inside}

module _ {A : Type 0} where
  length-claims_with : (f : ℕ) (a b : A) → length (claims_with f a b) ≡ claims_of f
  unfolding claims_with claims_of
  length-claims_with zero a b = refl
  length-claims_with (suc f) a b = refl

  claims_first : (f : ℕ) (a b d : A) → get_or (claims_with f a b) 0 d ≡ a
  unfolding claims_with
  claims_first zero a b d = refl
  claims_first (suc f) a b d = refl

  claims-second : (f : ℕ) (a b d : A) → 0 < f → get_or (claims_with f a b) 1 d ≡ b
  unfolding claims_with
  claims-second zero a b d h = absurd (omega arith)
  claims-second (suc f) a b d h = refl

module _ {A : Type 0} (R : Ring A) (half w : A) (run : Run A) (cells : ℕ → A) where
  abbrev before : ℕ → List A
  before = true_before R half w run cells

  abbrev plain : ℕ → A
  plain = column_value R half w run cells

  abbrev turned : ℕ → A
  turned = column_rotated R half w run cells

  pub length_before : (n : ℕ) → length (before n) ≡ claims_before run n
  unfolding true_before claims_before
  length_before zero = refl
  length_before (suc n) = length-append (before n) (claims_with (run.flag n) (plain n) (turned n)) ∙ ap₂ ◌+◌ (length_before n) (length-claims_with (run.flag n) (plain n) (turned n))

  pub claims-length : length (true_claims R half w run cells) ≡ claims_before run run.count
  unfolding true_claims
  claims-length = length_before run.count

  -- entry i of column k's claims
  entry : (n k i : ℕ) (d : A) → k < n → i < claims_of (run.flag k) → get_or (before n) (claims_before run k + i) d ≡ get_or (claims_with (run.flag k) (plain k) (turned k)) i d
  unfolding true_before
  entry zero k i d h l = absurd (omega arith)
  entry (suc n) k i d h l = last (eq-or-lt_of_le (le_of_suc-le-suc h)) (λ s. entry n k i d s l)
    where
      c : List A
      c = claims_with (run.flag n) (plain n) (turned n)

      last : (k ≡ n) ⊎ (k < n) → (k < n → get_or (before n) (claims_before run k + i) d ≡ get_or (claims_with (run.flag k) (plain k) (turned k)) i d)
          → get_or (before n ++ c) (claims_before run k + i) d ≡ get_or (claims_with (run.flag k) (plain k) (turned k)) i d
      last (inl e) ih =
          ap (λ m. get_or (before n ++ c) (m + i) d) (ap (claims_before run) e ∙ sym (length_before n)) ∙ get_or-append-add (before n) c i d
          ∙ ap (λ m. get_or (claims_with (run.flag m) (plain m) (turned m)) i d) (sym e)
      last (inr s) ih = get_or-append (before n) c d (claims_before run k + i) (omega (arith, length_before n, claims-inside run n k s)) ∙ ih s

  pub claims-plain : (k : ℕ) → k < run.count → get_or (true_claims R half w run cells) (claims_before run k) R.zero ≡ plain k
  unfolding true_claims
  claims-plain k h =
      ap (λ m. get_or (before run.count) m R.zero) (sym (Nat.add-zero (claims_before run k))) ∙ entry run.count k 0 R.zero h (claims-some (run.flag k))
      ∙ claims_first (run.flag k) (plain k) (turned k) R.zero

  pub claims-rotated : (k : ℕ) → k < run.count → 0 < run.flag k → get_or (true_claims R half w run cells) (claims_before run k + 1) R.zero ≡ turned k
  unfolding true_claims
  claims-rotated k h f = entry run.count k 1 R.zero h (omega (arith, claims_two (run.flag k) (λ e. omega arith))) ∙ claims-second (run.flag k) (plain k) (turned k) R.zero f
