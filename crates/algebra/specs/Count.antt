-- Types with finitely many elements, and how many lists of their elements pass a test.
use Rattle.std.specs.Prelude.{◌≡◌, Bool, true, false, List, [], ◌∷◌, ℕ, zero, suc, ◌+◌, ◌<◌, ◌≤◌, length}
use Rattle.algebra.specs.Polynomial.{All, Distinct}

-- f 0 + f 1 + .. + f (n − 1), of numbers
unfoldable pub total : ℕ → (ℕ → ℕ) → ℕ
total zero f = 0
total (suc n) f = total n f + f n

-- every element of A is element i for exactly one i below q, its index: so A has q elements
pub record EachOnce {A : Type 0} (q : ℕ) (element : ℕ → A) : Type 0 where
  pub index : A → ℕ
  pub below : (a : A) → index a < q
  pub there : (a : A) → element (index a) ≡ a
  pub once : (i : ℕ) → i < q → index (element i) ≡ i

-- 1 for yes, 0 for no
abbrev pub tally : Bool → ℕ
tally true = 1
tally false = 0

module _ {A : Type 0} where
  -- of the lists of m elements, how many pass: the sum over the first element of how many of the rest pass after it
  unfoldable pub how_many : ℕ → (ℕ → A) → ℕ → (List A → Bool) → ℕ
  how_many q element zero test = tally (test [])
  how_many q element (suc m) test = total q (λ i. how_many q element m (λ v. test (element i ∷ v)))

  -- no more than d elements satisfy P
  abbrev pub AtMost : ℕ → (A → Type 0) → Type 0
  AtMost d P = (vs : List A) → Distinct vs → All P vs → length vs ≤ d
