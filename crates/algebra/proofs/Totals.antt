-- Laws of totals.
use mathlib.Core.Path.{◌≡◌, refl, sym, ◌∙◌, ap, ap₂}
use mathlib.Core.Logic.{◌⊎◌, inl, inr}
use Prim.Native.Nat.{ℕ, zero, suc, ◌+◌, ◌*◌, ◌<◌, ◌≤◌}
use native.Mathlib.Nat
use native.Mathlib.Nat.{eq-or-lt_of_le, le_of_suc-le-suc}
use native.Mathlib.Omega.{arith}
use Rattle.algebra.specs.Count.{total}

pub total_le : (n : ℕ) (f g : ℕ → ℕ) → ((i : ℕ) → i < n → f i ≤ g i) → total n f ≤ total n g
unfolding total
total_le zero f g h = Nat.le_refl 0
total_le (suc n) f g h = let a = total_le n f g (λ i l. h i (omega arith)) in let b = h n (Nat.le_refl (suc n)) in omega arith

pub total_same : (n : ℕ) (f g : ℕ → ℕ) → ((i : ℕ) → i < n → f i ≡ g i) → total n f ≡ total n g
unfolding total
total_same zero f g h = refl
total_same (suc n) f g h = ap₂ ◌+◌ (total_same n f g (λ i l. h i (omega arith))) (h n (Nat.le_refl (suc n)))

pub total-add : (n : ℕ) (f g : ℕ → ℕ) → total n (λ i. f i + g i) ≡ total n f + total n g
unfolding total
total-add zero f g = refl
total-add (suc n) f g = let a = total-add n f g in omega arith

pub total_const : (n c : ℕ) → total n (λ i. c) ≡ n * c
unfolding total
total_const zero c = sym (Nat.zero-mul c)
total_const (suc n) c = ap (λ x. x + c) (total_const n c) ∙ sym (Nat.suc-mul n c)

pub total-mul : (n c : ℕ) (f : ℕ → ℕ) → total n (λ i. f i * c) ≡ total n f * c
unfolding total
total-mul zero c f = sym (Nat.zero-mul c)
total-mul (suc n) c f = ap (λ x. x + f n * c) (total-mul n c f) ∙ sym (Nat.add-mul (total n f) (f n) c)

-- one term
pub total_at : (n : ℕ) (f : ℕ → ℕ) (i : ℕ) → i < n → f i ≤ total n f
unfolding total
total_at zero f i h = absurd (omega arith)
total_at (suc n) f i h = by (eq-or-lt_of_le (le_of_suc-le-suc h)) (total_at n f i)
  where
    by : (i ≡ n) ⊎ (i < n) → (i < n → f i ≤ total n f) → f i ≤ total n f + f n
    by (inl e) ih = let k : f i ≡ f n = ap f e in omega arith
    by (inr l) ih = let k = ih l in omega arith
