-- A sender who sends the true quadratics from a true claim wins on all lists of challenges.
use mathlib.Core.Path.{◌≡◌, sym, ◌∙◌, ap}
use mathlib.Core.Bool.{Bool, true}
use mathlib.Core.List.{List, [], ◌∷◌}
use Prim.Native.Nat.{ℕ, zero, suc}
use native.Mathlib.Nat.{suc_inj, suc-ne-zero}
use lib.ListN.{length}
use Rattle.reduction.proofs.Game.{Tells, won}

module _ {A M : Type 0} {same : A → A → Bool} (tells : Tells same) (sent : A → M → A → A) where
  -- each round's sent polynomial is the true one
  abbrev pub Truthful : ℕ → (List A → M) → (List A → A) → Type 0
  Truthful zero s g = Unit {0}
  Truthful (suc n) s g = ((u : A) → sent (g []) (s []) u ≡ g (u ∷ [])) × ((u : A) → Truthful n (λ v. s (u ∷ v)) (λ v. g (u ∷ v)))

  pub always_won : (n : ℕ) (c : A) (s : List A → M) (g : List A → A) → Truthful n s g → c ≡ g []
      → (v : List A) → length v ≡ n → won same sent c s g v ≡ true
  unfolding won
  always_won zero c s g t e [] l = tells.passes c (g []) e
  always_won zero c s g t e (u ∷ v) l = absurd (suc-ne-zero _ l)
  always_won (suc n) c s g t e [] l = absurd (suc-ne-zero _ (sym l))
  always_won (suc n) c s g (true-now, rest) e (u ∷ v) l =
      always_won n (sent c (s []) u) (λ w. s (u ∷ w)) (λ w. g (u ∷ w)) (rest u) (ap (λ x. sent x (s []) u) e ∙ true-now u) v (suc_inj l)
