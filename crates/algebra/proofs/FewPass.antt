-- The elements of a finite type that pass a test, as a list; and a count split at its first element, where few of these are lucky.
use mathlib.Core.Path.{◌≡◌, refl, sym, ◌∙◌, ap, ap₂}
use mathlib.Core.Logic.{◌≢◌}
use mathlib.Core.Bool.{Bool, true, false}
use mathlib.Core.List.{List, [], ◌∷◌}
use Prim.Native.Nat.{ℕ, zero, suc, ◌+◌, ◌*◌, ◌^◌, ◌<◌, ◌≤◌}
use native.Mathlib.Nat
use native.Mathlib.Omega.{arith}
use lib.ListN.{length}
use Rattle.algebra.specs.Polynomial.{All, Distinct}
use Rattle.algebra.specs.Count.{total, EachOnce, tally, how_many, AtMost}
use Rattle.algebra.proofs.Totals.{total_le, total-add, total_const, total-mul}
use Rattle.algebra.proofs.Counts.{count_le_all}

module _ {A : Type 0} {q : ℕ} {element : ℕ → A} (fin : EachOnce q element) where
  module _ (test : A → Bool) where
    unfoldable keep : Bool → A → List A → List A
    keep true a vs = a ∷ vs
    keep false a vs = vs

    -- among the first n
    unfoldable passing : ℕ → List A
    passing zero = []
    passing (suc n) = keep (test (element n)) (element n) (passing n)

    keep-length : (b : Bool) (a : A) (vs : List A) → length (keep b a vs) ≡ length vs + tally b
    unfolding keep
    keep-length true a vs = omega arith
    keep-length false a vs = omega arith

    keep_all : (P : A → Type 0) (b : Bool) (a : A) (vs : List A) → (b ≡ true → P a) → All P vs → All P (keep b a vs)
    unfolding keep
    keep_all P true a vs p ps = (p refl, ps)
    keep_all P false a vs p ps = ps

    keep_distinct : (b : Bool) (a : A) (vs : List A) → All (λ s. s ≢ a) vs → Distinct vs → Distinct (keep b a vs)
    unfolding keep
    keep_distinct true a vs n d = (n, d)
    keep_distinct false a vs n d = d

    passing-length : (n : ℕ) → length (passing n) ≡ total n (λ i. tally (test (element i)))
    unfolding passing total
    passing-length zero = refl
    passing-length (suc n) = keep-length (test (element n)) (element n) (passing n) ∙ ap (λ x. x + tally (test (element n))) (passing-length n)

    passing_all : (n : ℕ) → All (λ v. test v ≡ true) (passing n)
    unfolding passing
    passing_all zero = tt
    passing_all (suc n) = keep_all (λ v. test v ≡ true) (test (element n)) (element n) (passing n) (λ e. e) (passing_all n)

    differ : (i k : ℕ) → i < k → k < q → element i ≢ element k
    differ i k l h e = let same : i ≡ k = sym (fin.once i (omega arith)) ∙ ap (λ a. fin.index a) e ∙ fin.once k h in omega arith

    passing_other : (n k : ℕ) → n ≤ k → k < q → All (λ s. s ≢ element k) (passing n)
    unfolding passing
    passing_other zero k l h = tt
    passing_other (suc n) k l h =
        keep_all (λ s. s ≢ element k) (test (element n)) (element n) (passing n) (λ e. differ n k l h) (passing_other n k (omega arith) h)

    passing_distinct : (n : ℕ) → n ≤ q → Distinct (passing n)
    unfolding passing
    passing_distinct zero h = tt
    passing_distinct (suc n) h =
        keep_distinct (test (element n)) (element n) (passing n) (passing_other n n (Nat.le_refl n) h) (passing_distinct n (omega arith))

    total_few : (d : ℕ) → AtMost d (λ v. test v ≡ true) → total q (λ i. tally (test (element i))) ≤ d
    total_few d h = rw (passing-length q) at (h (passing q) (passing_distinct q (Nat.le_refl q)) (passing_all q))

  -- there are n different elements
  pub n_different : (n : ℕ) → n ≤ q → (vs : List A) × (length vs ≡ n) × Distinct vs
  n_different n h = (passing (λ a. true) n, passing-length (λ a. true) n ∙ total_const n 1 ∙ Nat.mul-one n, passing_distinct (λ a. true) n h)

  -- at most d first elements are lucky, and after any other at most b of the rest pass
  pub count_split : (d b m : ℕ) (lucky : A → Bool) (t : List A → Bool) → AtMost d (λ v. lucky v ≡ true)
      → ((a : A) → lucky a ≡ false → how_many q element m (λ v. t (a ∷ v)) ≤ b) → how_many q element (suc m) t ≤ d * q ^ m + q * b
  unfolding how_many
  count_split d b m lucky t few rest =
      let s : total q (λ i. after (element i)) ≤ total q (λ i. tally (lucky (element i)) * q ^ m + b)
      = total_le q _ _ (λ i l. each (element i) (lucky (element i)) (λ e. rest (element i) e)) in
      let e : total q (λ i. tally (lucky (element i)) * q ^ m + b) ≡ total q (λ i. tally (lucky (element i))) * q ^ m + q * b
      = total-add q (λ i. tally (lucky (element i)) * q ^ m) (λ i. b) ∙ ap₂ ◌+◌ (total-mul q (q ^ m) (λ i. tally (lucky (element i)))) (total_const q b) in
      let k : total q (λ i. tally (lucky (element i))) * q ^ m ≤ d * q ^ m = Nat.mul-le-mul_right (q ^ m) (total_few lucky d few) in
      omega arith
    where
      after : A → ℕ
      after a = how_many q element m (λ v. t (a ∷ v))

      each : (a : A) (w : Bool) → (w ≡ false → after a ≤ b) → after a ≤ tally w * q ^ m + b
      each a true h = let l : after a ≤ q ^ m = count_le_all fin m (λ v. t (a ∷ v)) in omega arith
      each a false h = let l = h refl in omega arith
