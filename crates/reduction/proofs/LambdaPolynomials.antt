-- The weighted sum of claims as a polynomial in lambda, with two coefficients for each column.
use mathlib.Core.Path.{◌≡◌, refl, sym, ◌∙◌, ap}
use mathlib.Core.List.{List, [], ◌∷◌}
use Prim.Native.Nat.{ℕ, zero, suc, ◌+◌, ◌*◌, ◌-◌, ◌<◌, ◌≤◌}
use native.Mathlib.Omega.{arith}
use Rattle.algebra.specs.Ring.{Ring, pow, Domain}
use Rattle.algebra.specs.Sum.{sum}
use Rattle.algebra.specs.Polynomial.{value, Degree, All}
use Rattle.algebra.specs.Count.{EachOnce}
use Rattle.algebra.proofs.RingLaws as Laws
use Rattle.algebra.proofs.Sums.{sum_cong}
use Rattle.algebra.proofs.Polynomials.{same_of_points}
use Rattle.algebra.proofs.FewPass.{n_different}
use Rattle.weights.specs.Run.{Run}
use Rattle.weights.specs.LambdaPowers.{claims_of, claims_before, if_flagged, plain_power, rotated_power, weighted_claims}
use Rattle.reduction.specs.Senders.{alternating}
use Rattle.reduction.proofs.Alternations.{length-alternating, alternating_same, value-alternating}

module _ {A : Type 0} where
  -- the run with another lambda
  abbrev pub with_lambda : Run A → A → Run A
  with_lambda run l = record {
    skip = run.skip;
    stack = run.stack;
    count = run.count;
    start = run.start;
    log = run.log;
    flag = run.flag;
    r0 = run.r0;
    rs = run.rs;
    lambda = l;
  }

  pub before_any : (run : Run A) (l : A) (k : ℕ) → claims_before (with_lambda run l) k ≡ claims_before run k
  unfolding claims_before
  before_any run l zero = refl
  before_any run l (suc k) = ap (λ n. n + claims_of (run.flag k)) (before_any run l k)

module _ {A : Type 0} (R : Ring A) where
  infixl 60 ◌⊕◌
  infixl 70 ◌⊗◌
  open R use {zero as 𝟘, add as ◌⊕◌, mul as ◌⊗◌}

  -- a power that stands for flagged columns only
  flagged : (f : ℕ) (c x : A) → if_flagged R f c ⊗ x ≡ c ⊗ if_flagged R f x
  unfolding if_flagged
  flagged zero c x = Laws.zero-mul R x ∙ sym (Laws.mul-zero R c)
  flagged (suc f) c x = refl

  -- anything of the columns times their lambda powers: the coefficients, and the value
  abbrev pub in_lambda : Run A → (ℕ → A) → (ℕ → A) → List A
  in_lambda run a b = alternating run.count a (λ k. if_flagged R (run.flag k) (b k))

  powers_value : (run : Run A) (a b : ℕ → A) (l : A)
      → sum R run.count (λ k. plain_power R (with_lambda run l) k ⊗ a k ⊕ rotated_power R (with_lambda run l) k ⊗ b k) ≡ value R (in_lambda run a b) l
  unfolding plain_power rotated_power
  powers_value run a b l =
      sum_cong R run.count (λ k. ap (λ y. pow R l (2 * k) ⊗ a k ⊕ y) (flagged (run.flag k) (pow R l (2 * k + 1)) (b k)))
      ∙ sym (value-alternating R run.count a (λ k. if_flagged R (run.flag k) (b k)) l)

  pub claims-value : (run : Run A) (claims : ℕ → A) (l : A)
      → weighted_claims R (with_lambda run l) claims ≡ value R (in_lambda run (λ k. claims (claims_before run k)) (λ k. claims (claims_before run k + 1))) l
  unfolding weighted_claims
  claims-value run claims l =
      sum_cong R run.count (λ k.
      ap (λ j. plain_power R (with_lambda run l) k ⊗ claims j ⊕ rotated_power R (with_lambda run l) k ⊗ claims (j + 1)) (before_any run l k))
      ∙ powers_value run (λ k. claims (claims_before run k)) (λ k. claims (claims_before run k + 1)) l

  pub lambda_degree : (run : Run A) (a b : ℕ → A) (f : A → A) → 0 < run.count → ((x : A) → f x ≡ value R (in_lambda run a b) x) → Degree R (2 * run.count - 1) f
  lambda_degree run a b f h e =
      (in_lambda run a b, length-alternating run.count a _ ∙ (let k : 2 * run.count ≡ suc (2 * run.count - 1) = omega arith in k), e)

  all_of : (P : A → Type 0) → ((x : A) → P x) → (vs : List A) → All P vs
  all_of P h [] = tt
  all_of P h (v ∷ vs) = (h v, all_of P h vs)

  strip : (f : ℕ) (x y : A) → 0 < f → if_flagged R f x ≡ if_flagged R f y → x ≡ y
  unfolding if_flagged
  strip zero x y h e = absurd (omega arith)
  strip (suc f) x y h e = e

  -- where there are as many elements as coefficients, the values everywhere settle what stands for each column
  pub lambda_settled : {q : ℕ} {element : ℕ → A} (fin : EachOnce q element) → Domain R → (run : Run A) (a b c d : ℕ → A) → 2 * run.count ≤ q
      → ((x : A) → value R (in_lambda run a b) x ≡ value R (in_lambda run c d) x) → (k : ℕ) → k < run.count → (a k ≡ c k) × (0 < run.flag k → b k ≡ d k)
  lambda_settled fin domain run a b c d h e k s =
      let (vs, l, distinct) = n_different fin (2 * run.count) h in
      let same = same_of_points R domain (in_lambda run a b) (in_lambda run c d) vs (length-alternating run.count a _ ∙ sym (length-alternating run.count c _))
      (let m = length-alternating run.count a (λ k. if_flagged R (run.flag k) (b k)) in omega arith) distinct
      (all_of (λ x. value R (in_lambda run a b) x ≡ value R (in_lambda run c d) x) e vs) in
      let both = alternating_same run.count a _ c _ same k s in
      (both.0, λ f. strip (run.flag k) (b k) (d k) f both.1)
