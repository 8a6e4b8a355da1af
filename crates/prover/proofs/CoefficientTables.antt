-- The coefficients of elements split into four tables: the turns of the loop, and the elements that the four make.
use Rattle.std.proofs.Common.{◌≡◌, ℕ, ◌+◌, ◌*◌, ◌/◌, ◌%◌, ◌<◌, ◌≤◌, true, List, length, get_or, set, ap, ◌∙◌, ap₂, arith, length-set, get_or-set_other, get_or-set_same, below_more}
use mathlib.Core.Path.{subst⁻¹}
use native.Mathlib.Nat
use native.Mathlib.Decide.{ℕ_discrete}
use Rattle.field.specs.Word.{p, word_of}
use Rattle.field.specs.Slice.{elem_at, canonical_words}
use Rattle.field.proofs.Slices.{canonical_below, canonical_all}
use Rattle.prover.specs.RowSum.{table_index, coefficients}
use Rattle.prover.specs.KernelTables.{Split}
use Rattle.field.proofs.Embedding.{elem_eq}

-- the element whose coefficient an entry has
abbrev pub from : ℕ → ℕ → ℕ
from m i = i / 256 % 4 * m + i % 256

pub from-small : {m : ℕ} (i : ℕ) → m ≤ 256 → from m i < 1024
from-small {m} i h = let b : i / 256 % 4 * m ≤ 3 * 256 = Nat.mul-le-mul {n₁ = i / 256 % 4} {m₁ = m} {n₂ = 3} {m₂ = 256} (omega arith) h in omega arith

-- after i turns
pub record Splitting (m : ℕ) (k : List ℕ) (i : ℕ) (r : List ℕ) : Type 0 where
  pub bound : i ≤ 4096
  pub long : length r ≡ 4096
  pub entries : (j : ℕ) → j < i → get_or r j 0 ≡ get_or k (4 * from m j + j / 1024) 0
  pub small : (j : ℕ) → get_or r j 0 < p

module _ (m : ℕ) (k : List ℕ) where
  pub splitting_start : (r : List ℕ) → length r ≡ 4096 → canonical_words r ≡ true → Splitting m k 0 r
  splitting_start r l h = record { bound = omega arith; long = l; entries = λ j g. absurd (omega arith); small = canonical_below r h }

  pub splitting_turn : {i : ℕ} {r : List ℕ} → Splitting m k i r → i < 4096 → canonical_words k ≡ true → Splitting m k (i + 1) (set r i (get_or k (4 * from m i + i / 1024) 0))
  splitting_turn {i} {r} t l w =
      record {
        bound = omega arith;
        long = length-set r i x ∙ t.long;
        entries = below_more _ i (λ j h. get_or-set_other r i j x 0 (λ q. omega arith) ∙ t.entries j h) here;
        small = λ j. each j (ℕ_discrete j i);
      }
    where
      x : ℕ
      x = get_or k (4 * from m i + i / 1024) 0

      here : get_or (set r i x) i 0 ≡ x
      here = get_or-set_same r i x 0 (omega (arith, t.long))

      each : (j : ℕ) → Dec (j ≡ i) → get_or (set r i x) j 0 < p
      each j (yes q) = subst⁻¹ (λ v. v < p) (ap (λ a. get_or (set r i x) a 0) q ∙ here) (canonical_below k w (4 * from m i + i / 1024))
      each j (no q) = subst⁻¹ (λ v. v < p) (get_or-set_other r i j x 0 q) (t.small j)

  pub splitting_end : {i : ℕ} {r : List ℕ} → Splitting m k i r → 4096 ≤ i → m ≤ 256 → Split m k r
  unfolding table_index coefficients elem_at
  splitting_end {i} {r} t l few = record { elements = element; canonical = canonical_all r (λ j h. t.small j) }
    where
      -- coefficient c of element n, which stands in quarter d at place g
      word : (n d g c : ℕ) {x y : ℕ} → d < 4 → g < 256 → d * m + g ≡ n → c < 4 → x ≡ 256 * d + g + 1024 * c → y ≡ 4 * n + c → word_of (get_or r x 0) ≡ word_of (get_or k y 0)
      word n d g c {x} {y} hd hg e hc ex ey =
          let q : x / 256 % 4 ≡ d = omega arith in
          let s : x % 256 ≡ g = omega arith in
          let f : from m x ≡ n = ap₂ (λ v w. v * m + w) q s ∙ e in
          ap (λ v. word_of v) (t.entries x (omega arith) ∙ ap (λ j. get_or k j 0) {x = 4 * from m x + x / 1024} {y = y} (omega arith))

      element : (n : ℕ) → n < 4 * m → coefficients m r n ≡ elem_at k n
      element n h =
          let d : n / m < 4 = (Nat.div-lt_iff_lt-mul {k = m} {x = n} {y = 4} (omega arith)).1 h in
          let g : n % m < m = Nat.mod-lt n (omega arith) in
          let e : n / m * m + n % m ≡ n = Nat.div-add-mod' n m in
          elem_eq
          (word _ (n / m) (n % m) 0 d (omega arith) e (omega arith) (omega arith) (omega arith))
          (word _ (n / m) (n % m) 1 d (omega arith) e (omega arith) (omega arith) (omega arith))
          (word _ (n / m) (n % m) 2 d (omega arith) e (omega arith) (omega arith) (omega arith))
          (word _ (n / m) (n % m) 3 d (omega arith) e (omega arith) (omega arith) (omega arith))
