-- The number of claims, a column more.
use mathlib.Core.Path.{◌≡◌, refl, sym, ◌∙◌, ap, ap₂}
use mathlib.Core.Logic.{◌⊎◌, inl, inr}
use mathlib.Core.List.{List, []}
use Prim.Native.Nat.{ℕ, zero, suc, ◌+◌, ◌*◌, ◌<◌, ◌≤◌}
use native.Mathlib.Nat.{eq-or-lt_of_le, le_of_suc-le-suc}
use native.Mathlib.Numerals.{add-one}
use native.Mathlib.Omega.{arith}
use Rattle.layout.specs.declared.columns.Column.{Column}
use Rattle.layout.specs.Triples.{column_count}
use Rattle.layout.specs.Lists.{first_count}
use Rattle.layout.specs.Columns.{column_at, walk_first, walk_next}
use Rattle.layout.specs.Walked.{Walked}
use Rattle.layout.proofs.ColumnWalks.{walk_start, walk_turn}
use Rattle.weights.specs.Run.{Run}
use Rattle.weights.specs.RunOf.{run_of}
use Rattle.weights.specs.ClaimCount.{claim_count}
use Rattle.weights.specs.LambdaPowers.{claims_of, claims_before}

pub claims_one : (f : ℕ) → f ≡ 0 → 1 ≡ claims_of f
unfolding claims_of
claims_one zero e = refl
claims_one (suc f) e = absurd (omega arith)

pub claims_two : (f : ℕ) → (f ≡ 0 → ⊥) → 2 ≡ claims_of f
unfolding claims_of
claims_two zero e = absurd (e refl)
claims_two (suc f) e = refl

pub claims-some : (f : ℕ) → 0 < claims_of f
unfolding claims_of
claims-some zero = omega arith
claims-some (suc f) = omega arith

pub claims-both : (f : ℕ) → 0 < f → 1 < claims_of f
unfolding claims_of
claims-both zero h = absurd (omega arith)
claims-both (suc f) h = omega arith

claims_most : (f : ℕ) → claims_of f ≤ 2
unfolding claims_of
claims_most zero = omega arith
claims_most (suc f) = omega arith

pub few_claims : (f : ℕ) {m : ℕ} → m ≡ claims_of f → m ≤ 2
few_claims f e = omega (arith, claims_most f)

module _ {A : Type 0} (run : Run A) where
  pub claims_start : 0 ≡ claims_before run 0
  unfolding claims_before
  claims_start = refl

  pub claims_turn : (k : ℕ) {i f m : ℕ} → i ≡ claims_before run k → f ≡ run.flag k → m ≡ claims_of f → i + m ≡ claims_before run (k + 1)
  unfolding claims_before
  claims_turn k ei ef em = ap₂ ◌+◌ ei (em ∙ ap claims_of ef) ∙ ap (claims_before run) (sym (add-one k))

  pub claims-within : (k : ℕ) → claims_before run k ≤ 2 * k
  unfolding claims_before
  claims-within zero = omega arith
  claims-within (suc k) = omega (arith, claims-within k, claims_most (run.flag k))

  -- a column's claims stand before those of any later one
  pub claims-inside : (n k : ℕ) → k < n → claims_before run k + claims_of (run.flag k) ≤ claims_before run n
  unfolding claims_before
  claims-inside zero k h = absurd (omega arith)
  claims-inside (suc n) k h = last (eq-or-lt_of_le (le_of_suc-le-suc h)) (claims-inside n k)
    where
      last : (k ≡ n) ⊎ (k < n) → (k < n → claims_before run k + claims_of (run.flag k) ≤ claims_before run n)
          → claims_before run k + claims_of (run.flag k) ≤ claims_before run n + claims_of (run.flag n)
      last (inl e) ih = omega (arith, ap (claims_before run) e, ap (λ m. claims_of (run.flag m)) e)
      last (inr s) ih = omega (arith, ih s)

  pub claim-inside : (n k i : ℕ) → k < n → i < claims_of (run.flag k) → claims_before run k + i < claims_before run n
  claim-inside n k i h l = omega (arith, claims-inside n k h)

-- no point and no lambda changes the number of claims
claims_same : (l n first : ℕ) (lists point lambda : List ℕ) (k : ℕ) → claims_before (run_of l n first lists point lambda) k ≡ claims_before (run_of l n first lists [] []) k
unfolding claims_before
claims_same l n first lists point lambda zero = refl
claims_same l n first lists point lambda (suc k) = ap (λ c. c + claims_of (column_at l n first lists k).flag) (claims_same l n first lists point lambda k)

pub claims_are : (l n : ℕ) (counts lists point lambda : List ℕ) → claim_count l n counts lists ≡ claims_before (run_of l n (first_count counts) lists point lambda) (column_count lists)
claims_are l n counts lists point lambda = sym (claims_same l n (first_count counts) lists point lambda (column_count lists))

-- the walk of `claim_count`: at column k, the claims before it
module _ (l n first : ℕ) (lists : List ℕ) where
  pub record Counting (k count : ℕ) (c : Column) : Type 0 where
    pub cursor : c ≡ column_at l n first lists k
    pub counted : (point lambda : List ℕ) → count ≡ claims_before (run_of l n first lists point lambda) k

  module _ {columns : ℕ} (walk : Walked l n first lists columns) where
    pub counting_start : (c : Column) → c ≡ walk_first l n first lists → Counting 0 0 c
    counting_start c e = record { cursor = walk_start walk c e; counted = λ point lambda. claims_start (run_of l n first lists point lambda) }

    pub counting_turn : (k : ℕ) (c d : Column) {i m : ℕ} → k < columns → Counting k i c → m ≡ claims_of c.flag → d ≡ walk_next l n first lists c → Counting (k + 1) (i + m) d
    counting_turn k c d h o em e = record {
      cursor = walk_turn walk k c d h o.cursor e;
      counted = λ point lambda. claims_turn (run_of l n first lists point lambda) k (o.counted point lambda) (ap (λ (x : Column). x.flag) o.cursor) em;
    }
