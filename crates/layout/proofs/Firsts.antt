-- Laws of ordered checks: what the first number that is not 0 is, and what follows where there is none. Assumes nothing.
use Prim.Native.Nat.{ℕ, zero, suc, ◌+◌, ◌*◌, ◌<◌, ◌≤◌}
use mathlib.Core.Path.{◌≡◌, refl, sym, ap, ◌∙◌}
use mathlib.Core.Bool.{Bool, true, false, not, ◌&&◌, ◌||◌, true≢false}
use mathlib.Core.Logic.{⊎_elim}
use native.Mathlib.Nat.{eq-or-lt_of_le, le_of_suc-le-suc, le_antisymm}
use native.Mathlib.Numerals.{add-one}
use native.Mathlib.Omega.{arith}
use lib.Dec.{eqb}
use borrow.Author.Tests.{eq-eqb, ne_eqb}
use Rattle.layout.specs.Checks.{refuse, or_else, first_of}

pub or_skip : (a b : ℕ) → a ≡ 0 → or_else a b ≡ b
unfolding or_else
or_skip zero b e = refl
or_skip (suc a) b e = absurd (omega arith)

pub or_stop : (a b : ℕ) → (a ≡ 0 → ⊥) → or_else a b ≡ a
unfolding or_else
or_stop zero b e = absurd (e refl)
or_stop (suc a) b e = refl

pub or_passed : (a b : ℕ) → or_else a b ≡ 0 → (a ≡ 0) × (b ≡ 0)
unfolding or_else
or_passed zero b e = (refl, e)
or_passed (suc a) b e = absurd (omega arith)

-- a check in a chain: passed, and failed
pub skip : (a b : ℕ) {m : ℕ} → a ≡ 0 → m ≡ b → m ≡ or_else a b
skip a b e f = f ∙ sym (or_skip a b e)

pub stop : (a b m : ℕ) → m ≡ a → (m ≡ 0 → ⊥) → m ≡ or_else a b
stop a b m e h = e ∙ sym (or_stop a b (λ z. h (e ∙ z)))

pub refused : (n : ℕ) (t : Bool) → t ≡ true → refuse n t ≡ n
unfolding refuse
refused n t e = ap (refuse n) e

pub passed : (n : ℕ) (t : Bool) → t ≡ false → refuse n t ≡ 0
unfolding refuse
passed n t e = ap (refuse n) e

pub is_false : (n : ℕ) (t : Bool) → 0 < n → refuse n t ≡ 0 → t ≡ false
unfolding refuse
is_false n true h e = absurd (omega arith)
is_false n false h e = refl

-- a check by a test in a chain
pub skips : (n : ℕ) (t : Bool) (b : ℕ) {m : ℕ} → t ≡ false → m ≡ b → m ≡ or_else (refuse n t) b
skips n t b e f = skip (refuse n t) b (passed n t e) f

pub stops : (n : ℕ) (t : Bool) (b : ℕ) → 0 < n → t ≡ true → n ≡ or_else (refuse n t) b
stops n t b h e = stop (refuse n t) b n (sym (refused n t e)) (λ z. omega arith)

-- below-more for the successor
pub first_more : (k : ℕ) (f : ℕ → ℕ) → first_of k f ≡ 0 → f k ≡ 0 → first_of (k + 1) f ≡ 0
unfolding first_of
first_more k f e h = ap (λ (i : ℕ). first_of i f) (add-one k) ∙ (or_skip (first_of k f) (f k) e ∙ h)

pub first_all : (k : ℕ) (f : ℕ → ℕ) → first_of k f ≡ 0 → (i : ℕ) → i < k → f i ≡ 0
unfolding first_of
first_all zero f e i h = absurd (omega arith)
first_all (suc k) f e i h =
    let b = or_passed (first_of k f) (f k) e in
    ⊎_elim (λ q. ap f q ∙ b.1) (λ q. first_all k f b.0 i q) (eq-or-lt_of_le (le_of_suc-le-suc h))

pub first_none : (k : ℕ) (f : ℕ → ℕ) → ((i : ℕ) → i < k → f i ≡ 0) → first_of k f ≡ 0
unfolding first_of
first_none zero f h = refl
first_none (suc k) f h = or_skip (first_of k f) (f k) (first_none k f (λ i l. h i (omega arith))) ∙ h k (omega arith)

-- the first that is not 0 stays the first
pub first_found : (m k : ℕ) (f : ℕ → ℕ) (v : ℕ) → k < m → first_of k f ≡ 0 → f k ≡ v → (v ≡ 0 → ⊥) → v ≡ first_of m f
unfolding first_of
first_found zero k f v h e q z = absurd (omega arith)
first_found (suc m) k f v h e q z =
    ⊎_elim
    (λ p. sym (or_skip (first_of m f) (f m) (ap (λ (i : ℕ). first_of i f) (sym p) ∙ e) ∙ (ap f (sym p) ∙ q)))
    (λ p. let r = first_found m k f v p e q z in r ∙ sym (or_stop (first_of m f) (f m) (λ o. z (r ∙ o))))
    (eq-or-lt_of_le (le_of_suc-le-suc h))

-- where every number that is not 0 is v, so is the first
pub first_is : (m : ℕ) (f : ℕ → ℕ) (v : ℕ) → ((i : ℕ) → (f i ≡ 0 → ⊥) → f i ≡ v) → (first_of m f ≡ 0 → ⊥) → first_of m f ≡ v
unfolding first_of
first_is zero f v only o = absurd (o refl)
first_is (suc m) f v only o = by_case (first_of m f) refl (first_is m f v only)
  where
    by_case : (t : ℕ) → first_of m f ≡ t → ((first_of m f ≡ 0 → ⊥) → first_of m f ≡ v) → or_else (first_of m f) (f m) ≡ v
    by_case zero e before = or_skip (first_of m f) (f m) e ∙ only m (λ w. o (or_skip (first_of m f) (f m) e ∙ w))
    by_case (suc t) e before = or_stop (first_of m f) (f m) (λ w. omega arith) ∙ before (λ w. omega arith)

-- and one that is v decides
pub first_only : (m k : ℕ) (f : ℕ → ℕ) (v : ℕ) → k < m → f k ≡ v → (v ≡ 0 → ⊥) → ((i : ℕ) → (f i ≡ 0 → ⊥) → f i ≡ v) → v ≡ first_of m f
first_only m k f v h q z only = sym (first_is m f v only (λ o. z (sym q ∙ first_all m f o k h)))

-- a loop that came to its end found none
pub first_end : (m i : ℕ) (f : ℕ → ℕ) → i ≤ m → m ≤ i → first_of i f ≡ 0 → 0 ≡ first_of m f
first_end m i f a b e = sym e ∙ ap (λ (k : ℕ). first_of k f) (le_antisymm a b)

-- tests joined by `or`: passed, and met
pub or_no : (a b : Bool) {r : Bool} → a ≡ false → r ≡ b → r ≡ a || b
or_no a b e f = f ∙ ap (λ (t : Bool). t || b) (sym e)

pub or_yes : (a b : Bool) → a ≡ true → true ≡ a || b
or_yes a b e = ap (λ (t : Bool). t || b) (sym e)

pub or_left : (a b : Bool) → a || b ≡ false → a ≡ false
or_left true b e = e
or_left false b e = refl

pub or_right : (a b : Bool) → a || b ≡ false → b ≡ false
or_right true b e = absurd (true≢false e)
or_right false b e = e

pub or_none : (a b : Bool) → a ≡ false → b ≡ false → a || b ≡ false
or_none a b e f = ap (λ (t : Bool). t || b) e ∙ f

-- tests joined by `and`
pub and_yes : (a b : Bool) {r : Bool} → a ≡ true → r ≡ b → r ≡ a && b
and_yes a b e f = f ∙ ap (λ (t : Bool). t && b) (sym e)

pub and_no : (a b : Bool) → a ≡ false → false ≡ a && b
and_no a b e = ap (λ (t : Bool). t && b) (sym e)

pub and_left : (a b : Bool) → a && b ≡ true → a ≡ true
and_left true b e = refl
and_left false b e = e

pub and_right : (a b : Bool) → a && b ≡ true → b ≡ true
and_right true b e = e
and_right false b e = absurd (true≢false (sym e))

pub and_all : (a b : Bool) → a ≡ true → b ≡ true → a && b ≡ true
and_all a b e f = ap (λ (t : Bool). t && b) e ∙ f

-- the test that two numbers differ
pub differs : (a b : ℕ) → (a ≡ b → ⊥) → not (eqb a b) ≡ true
differs a b h = ap not (ne_eqb a b h)

pub same : (a b : ℕ) → a ≡ b → not (eqb a b) ≡ false
same a b h = ap not (eq-eqb a b h)

-- a bound of an equal number
pub at_most : (w x j : ℕ) → w ≡ x → w ≤ j → x ≤ j
at_most w x j e h = omega arith

pub above : (w x j : ℕ) → w ≡ x → j < w → j < x
above w x j e h = omega arith

pub positive : (w : ℕ) → (w ≡ 0 → ⊥) → 0 < w
positive w h = omega arith

pub times : (a b x y : ℕ) → a ≡ x → b ≡ y → a * b ≡ x * y
times a b x y e f = ap (λ (k : ℕ). k * b) e ∙ ap (λ (k : ℕ). x * k) f
