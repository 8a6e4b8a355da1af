-- Which of two runs gives the next entry. Assumes nothing.
use Prim.Native.Nat.{ℕ, ◌<◌, ◌≤◌}
use mathlib.Core.Path.{◌≡◌, refl, ap, ◌∙◌}
use mathlib.Core.Logic.{inl, inr, ⊎_elim}
use mathlib.Core.List.{List}
use native.Mathlib.Omega.{arith}
use lib.ListN.{get_or}
use Rattle.ordering.specs.Ordered.{key_at}
use Rattle.ordering.specs.Runs.{Choice, Chosen}

module _ (list from : List ℕ) (i m j b : ℕ) where
  pub chosen_last : Choice list from i m j b → m ≤ i → Chosen list from i m j b j
  chosen_last ok h = inr (refl, omega (arith, ok.high, ok.some), λ k. absurd (omega arith))

  pub chosen_only : i < m → b ≤ j → Chosen list from i m j b i
  chosen_only h g = inl (refl, h, λ k. absurd (omega arith))

  pub chosen-below : (p : ℕ) → Chosen list from i m j b p → p < m → m ≤ j → i < m
  chosen-below p c h g = ⊎_elim (λ t. t.1) (λ t. absurd (omega (arith, t.0))) c

  module _ (x y s t : ℕ) (xe : x ≡ get_or from i 0) (ye : y ≡ get_or from j 0) (se : s ≡ key_at list x) (te : t ≡ key_at list y) where
    left_key : s ≡ key_at list (get_or from i 0)
    left_key = se ∙ ap (key_at list) xe

    right_key : t ≡ key_at list (get_or from j 0)
    right_key = te ∙ ap (key_at list) ye

    pub chosen-right : j < b → s < t → Chosen list from i m j b j
    chosen-right h k = inr (refl, h, λ g. omega (arith, left_key, right_key))

    pub chosen-left : i < m → t ≤ s → Chosen list from i m j b i
    chosen-left h k = inl (refl, h, λ g. omega (arith, left_key, right_key))
