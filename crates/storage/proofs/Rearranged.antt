-- A stacked matrix and its stored rows as arrangements, and what their rearranging leaves. Assumes nothing.
use Prim.Native.Nat.{ℕ, ◌+◌, ◌*◌, ◌/◌, ◌%◌, ◌^◌, ◌<◌, ◌≤◌}
use mathlib.Core.Path.{◌≡◌, refl, sym, ap, ap₂, ◌∙◌}
use mathlib.Core.Bool.{true, false, true≢false}
use mathlib.Core.Logic.{◌⊎◌, inl, inr}
use mathlib.Core.List.{List}
use native.Mathlib.Nat
use native.Mathlib.Nat.{mod-lt}
use native.Mathlib.Omega.{arith}
use lib.ListN.{length, get_or}
use Rattle.std.proofs.lemmas.Bool.{cases_lt}
use Rattle.std.proofs.lemmas.Nat.{mul-add-lt, div-mul-add, mod-mul-add, div-add-mod'}
use Rattle.algebra.proofs.Powers.{two_pow-pos}
use Rattle.storage.specs.Reversed.{reversed}
use Rattle.storage.specs.Rows.{stacked_at, stored_at, stored_rows, stacked_columns}
use Rattle.storage.specs.Moving.{grid_at, There, Route, Said, Carried, Ways, Between, columns_grid, rows_grid}
use Rattle.storage.proofs.Reversals.{reversed-below, reversed_twice}
use Rattle.storage.proofs.Moves.{carried_all}

columns_there : (k w n : ℕ) → n ≡ w * 2 ^ k → There (columns_grid k) k w n
columns_there k w n e b c l h = let m = mul-add-lt c (2 ^ k) b w h l in omega (arith, m)

rows_there : (k w n : ℕ) → n ≡ w * 2 ^ k → There (rows_grid w) k w n
rows_there k w n e b c l h = let m = mul-add-lt (reversed k b) w c (2 ^ k) (reversed-below k b) h in omega (arith, m)

pub storing : (k w from to : ℕ) → w ≤ 4096 → k ≤ 24 → from ≡ w * 2 ^ k → to ≡ w * 2 ^ k → Between from (columns_grid k) to (rows_grid w) k w × Ways true (columns_grid k) (rows_grid w)
storing k w from to narrow few e d = (
  record { reads = columns_there k w from e; writes = rows_there k w to d; bits = few; narrow_from = omega arith; narrow_to = narrow },
  record { into = λ s. (refl, refl); out = λ s. absurd (true≢false s) },
)

pub loading : (k w from to : ℕ) → w ≤ 4096 → k ≤ 24 → from ≡ w * 2 ^ k → to ≡ w * 2 ^ k → Between from (rows_grid w) to (columns_grid k) k w × Ways false (rows_grid w) (columns_grid k)
loading k w from to narrow few e d = (
  record { reads = rows_there k w from e; writes = columns_there k w to d; bits = few; narrow_from = narrow; narrow_to = omega arith },
  record { into = λ s. absurd (true≢false (sym s)); out = λ s. (refl, refl) },
)

-- a quotient below the number of parts
quotient : (p w n : ℕ) → p < w * n → (0 < w) × (p / w < n)
quotient p w n h = (some (cases_lt 0 w), less (cases_lt (p / w) n))
  where
    some : (0 < w) ⊎ (w ≤ 0) → 0 < w
    some (inl l) = l
    some (inr g) = let e : w * n ≡ 0 * n = ap (λ x. x * n) {x = w} {y = 0} (omega arith) in absurd (omega (arith, Nat.zero-mul n))

    less : (p / w < n) ⊎ (n ≤ p / w) → p / w < n
    less (inl l) = l
    less (inr g) = let m : w * n ≤ w * (p / w) = Nat.mul-le-mul_left w g in absurd (omega (arith, div-add-mod' p w))

module _ (w k : ℕ) (xs : List ℕ) where
  pub stored_is : (old new : List ℕ) → Carried xs (Route (columns_grid k) (rows_grid w) k (λ b. b < 2 ^ k) w) old new → length new ≡ w * 2 ^ k → new ≡ stored_rows w k xs
  unfolding stored_rows
  stored_is old new moved size = carried_all xs (λ i. get_or xs (stacked_at k (reversed k (i / w)) (i % w)) 0) (w * 2 ^ k) old new size moved said every
    where
      said : Said xs (Route (columns_grid k) (rows_grid w) k (λ b. b < 2 ^ k) w) (λ i. get_or xs (stacked_at k (reversed k (i / w)) (i % w)) 0)
      said p s r =
          let e : p ≡ reversed k r.b * w + r.c = omega (arith, r.to) in
          let d : p / w ≡ reversed k r.b = ap (λ n. n / w) e ∙ div-mul-add (reversed k r.b) w r.c r.column in
          let c : p % w ≡ r.c = ap (λ n. n % w) e ∙ mod-mul-add (reversed k r.b) w r.c r.column in
          let b : reversed k (p / w) ≡ r.b = ap (reversed k) d ∙ reversed_twice k r.b r.row in
          let f : s ≡ r.c * 2 ^ k + r.b = omega (arith, r.from) in
          ap (λ n. get_or xs n 0) (f ∙ ap₂ (λ x y. x * 2 ^ k + y) (sym c) (sym b))

      every : (p : ℕ) → p < w * 2 ^ k → (s : ℕ) × Route (columns_grid k) (rows_grid w) k (λ b. b < 2 ^ k) w p s
      every p h =
          let q = quotient p w (2 ^ k) h in
          let l = reversed-below k (p / w) in
          let e : reversed k (reversed k (p / w)) * w ≡ p / w * w = ap (λ n. n * w) (reversed_twice k (p / w) q.1) in (
            grid_at (columns_grid k) k (reversed k (p / w)) (p % w),
            record { b = reversed k (p / w); c = p % w; one = l; row = l; column = mod-lt p q.0; to = omega (arith, e, div-add-mod' p w); from = refl },
          )

  pub loaded_is : (old new : List ℕ) → Carried xs (Route (rows_grid w) (columns_grid k) k (λ b. b < 2 ^ k) w) old new → length new ≡ w * 2 ^ k → new ≡ stacked_columns w k xs
  unfolding stacked_columns
  loaded_is old new moved size = carried_all xs (λ i. get_or xs (stored_at w k (i % 2 ^ k) (i / 2 ^ k)) 0) (w * 2 ^ k) old new size moved said every
    where
      said : Said xs (Route (rows_grid w) (columns_grid k) k (λ b. b < 2 ^ k) w) (λ i. get_or xs (stored_at w k (i % 2 ^ k) (i / 2 ^ k)) 0)
      said p s r =
          let e : p ≡ r.c * 2 ^ k + r.b = omega (arith, r.to) in
          let c : p / 2 ^ k ≡ r.c = ap (λ n. n / 2 ^ k) e ∙ div-mul-add r.c (2 ^ k) r.b r.row in
          let b : p % 2 ^ k ≡ r.b = ap (λ n. n % 2 ^ k) e ∙ mod-mul-add r.c (2 ^ k) r.b r.row in
          let f : s ≡ reversed k r.b * w + r.c = omega (arith, r.from) in
          ap (λ n. get_or xs n 0) (f ∙ ap₂ (λ x y. reversed k x * w + y) (sym b) (sym c))

      every : (p : ℕ) → p < w * 2 ^ k → (s : ℕ) × Route (rows_grid w) (columns_grid k) k (λ b. b < 2 ^ k) w p s
      every p h =
          let l : p % 2 ^ k < 2 ^ k = mod-lt p (two_pow-pos k) in
          let g : p < 2 ^ k * w = omega arith in (
            grid_at (rows_grid w) k (p % 2 ^ k) (p / 2 ^ k),
            record { b = p % 2 ^ k; c = p / 2 ^ k; one = l; row = l; column = (quotient p (2 ^ k) w g).1; to = omega (arith, div-add-mod' p (2 ^ k)); from = refl },
          )
