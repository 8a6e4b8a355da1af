-- A run's rounds are honest in the sense of the carried claim, and with true openings the last sum is the weighted sum at all challenges. So both
-- sentences on the verdict, for any stacked matrices.
use mathlib.Core.Path.{◌≡◌, sym, ◌∙◌, ap}
use mathlib.Core.Logic.{◌⊎◌, ◌↔◌}
use mathlib.Core.List.{List, [], ◌++◌, append-nil}
use Prim.Native.Nat.{ℕ, ◌-◌, ◌^◌, ◌<◌}
use native.Mathlib.Omega.{arith}
use lib.ListN.{length, take, get_or}
use lib.Seq.{take_all, take-suc, length-take-le}
use Rattle.algebra.specs.Ring.{Ring, num, Domain}
use Rattle.algebra.specs.Sum.{sum}
use Rattle.algebra.specs.Multilinear.{bits}
use Rattle.algebra.proofs.Sums.{sum_cong, sum_single}
use Rattle.weights.specs.Run.{Run}
use Rattle.weights.specs.StackColumns.{true_opening}
use Rattle.weights.specs.FoldedSum.{column_term, folded_sum, honest}
use Rattle.weights.specs.FinalSum.{final_sum}
use Rattle.weights.specs.Carried.{carried, sent_at, OneOrTwo, Slip}
use Rattle.weights.proofs.HonestQuadratics.{honest_next, honest-sum, honest-quadratic}
use Rattle.weights.proofs.CarriedErrors.{Honest}
use Rattle.weights.proofs.HonestPairs.{right_exactly}
use Rattle.weights.proofs.AnyPairs.{right_or_slip}

-- the later challenges, by rounds
abbrev pub challenge : {A : Type 0} → Ring A → List A → ℕ → A
challenge R us j = get_or us j R.zero

module _ {A : Type 0} (R : Ring A) (half w : A) (run : Run A) (cells : ℕ → A) (u : A) (us : List A) where
  -- the sums folded so far and the honest quadratics, by rounds
  abbrev pub sum_after : ℕ → A
  sum_after j = folded_sum R half w run cells u (take j us)

  abbrev pub honest_at : ℕ → A → A
  honest_at j = honest R half w run cells u (take j us)

module _ {A : Type 0} (R : Ring A) (half w : A) (run : Run A) (cells : ℕ → A) (u : A) (us : List A) (all : length us ≡ run.stack) where
  open R use {zero as 𝟘, one as 𝟙}

  abbrev c : ℕ → A
  c = challenge R us

  abbrev v : ℕ → A
  v = sum_after R half w run cells u us

  abbrev g : ℕ → A → A
  g = honest_at R half w run cells u us

  pub run-honest : R.mul half (num R 2) ≡ 𝟙 → Honest R half run.stack c v g
  run-honest half_two = record {
    sums = λ j h. honest-sum R half w run cells u (take j us) (rw (length-take-le j us (omega arith)) h);
    next = λ j h. ap (folded_sum R half w run cells u) (take-suc us j 𝟘 (rw all h)) ∙ sym (honest_next R half w run cells u (take j us) (get_or us j 𝟘));
    values = λ j h x. honest-quadratic R half w run cells u half_two (take j us) x;
  }

  pub final_sum-true : final_sum R half w run u us (true_opening R half w run cells u us) ≡ folded_sum R half w run cells u us
  unfolding final_sum true_opening folded_sum column_term bits
  final_sum-true =
      sum_cong R run.count (λ k.
      sym (sum_single R _ ∙ ap (column_term R half w run cells k u) (append-nil us)))
      ∙ ap (λ m. sum R run.count (λ k. sum R (2 ^ m) (λ y. column_term R half w run cells k u (us ++ bits R m y)))) {x = 0} {y = run.stack - length us} (omega arith)

  last_sum : v run.stack ≡ final_sum R half w run u us (true_opening R half w run cells u us)
  last_sum = ap (folded_sum R half w run cells u) (take_all run.stack us (omega arith)) ∙ sym final_sum-true

  -- on honest pairs and true openings, whatever the first claim
  pub verdict-honest : R.mul half (num R 2) ≡ 𝟙 → Domain R → ((a b : A) → Dec (a ≡ b)) → (claim : A)
      → (carried R half claim (λ j. g j 𝟙) (λ j. g j (num R 2)) c run.stack
      ≡ final_sum R half w run u us (true_opening R half w run cells u us))
      ↔ ((claim ≡ folded_sum R half w run cells u []) ⊎ OneOrTwo R c run.stack)
  verdict-honest half_two domain same? claim =
      rw last_sum at (right_exactly R half half_two domain same? (run-honest half_two) claim)

  -- on any pairs and true openings
  pub verdict_any : R.mul half (num R 2) ≡ 𝟙 → ((a b : A) → Dec (a ≡ b)) → (claim : A) (p q : ℕ → A)
      → carried R half claim p q c run.stack ≡ final_sum R half w run u us (true_opening R half w run cells u us)
      → (claim ≡ folded_sum R half w run cells u [])
      ⊎ ((j : ℕ) × (j < run.stack) × Slip (sent_at R half claim p q c j) (g j) (c j))
  verdict_any half_two same? claim p q right =
      right_or_slip R half half_two same? run.stack c v g claim p q (run-honest half_two).sums (run-honest half_two).next
      (right ∙ sym last_sum)
