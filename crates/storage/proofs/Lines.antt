-- Words at even steps: one more, and all. Assumes nothing.
use Prim.Native.Nat.{ℕ, ◌+◌, ◌*◌, ◌<◌, ◌≤◌}
use mathlib.Core.Path.{◌≡◌, refl, ap, ◌∙◌}
use mathlib.Core.Logic.{◌⊎◌, inl, inr}
use mathlib.Core.List.{List}
use native.Mathlib.Nat.{le_antisymm}
use native.Mathlib.Decide.{ℕ_discrete}
use native.Mathlib.Omega.{arith}
use lib.ListN.{length, get_or, set}
use Rattle.storage.specs.Moving.{Carried, OnLine}
use Rattle.storage.proofs.Moves.{carried_none, carried-set}

module _ (from : List ℕ) (a da b db : ℕ) where
  pub line_start : (old : List ℕ) → Carried from (OnLine a da b db 0) old old
  line_start old = carried_none from old (λ p s g. omega (arith, g.1))

  pub line_turn : (old cur : List ℕ) (i : ℕ) → b + i * db < length cur → Carried from (OnLine a da b db i) old cur → Carried from (OnLine a da b db (i + 1)) old (set cur (b + i * db) (get_or from (a + i * da) 0))
  line_turn old cur i h m = carried-set from old cur (b + i * db) (a + i * da) h split (λ q r g. (g.0, omega (arith, g.1), g.2, g.3)) (i, omega arith, refl, refl) m
    where
      split : (q r : ℕ) → OnLine a da b db (i + 1) q r → OnLine a da b db i q r ⊎ ((q ≡ b + i * db) × (r ≡ a + i * da))
      split q r (j, l, d, e) = go (ℕ_discrete j i)
        where
          go : Dec (j ≡ i) → OnLine a da b db i q r ⊎ ((q ≡ b + i * db) × (r ≡ a + i * da))
          go (yes same) = inr (d ∙ ap (λ x. b + x * db) same, e ∙ ap (λ x. a + x * da) same)
          go (no other) = inl (j, omega arith, d, e)

  pub line_end : (old cur : List ℕ) (i n : ℕ) → i ≤ n → n ≤ i → Carried from (OnLine a da b db i) old cur → Carried from (OnLine a da b db n) old cur
  line_end old cur i n h k m = rw (le_antisymm k h) m
