-- What follows in a field: no zero divisors, and equality can be told.
use mathlib.Core.Path.{◌≡◌, refl}
use mathlib.Core.List.{[], ◌∷◌}
use Rattle.algebra.specs.Ring.{Ring, IsField, Domain, sub}
use Rattle.algebra.proofs.RingLaws as Laws
use Rattle.algebra.proofs.Expression.{:0, :1, ◌:*◌, :neg, ◌:=◌, ◌given◌⋆◌≈◌}
use Rattle.algebra.proofs.Solver.{solve}

module _ {A : Type 0} {R : Ring A} (F : IsField R) where
  pub field_domain : Domain R
  field_domain x y n e =
      let (z, h) = F.inverse x n in
      solve R (x ∷ y ∷ z ∷ []) (λ x y z. y := :0 given z ⋆ x :* y ≈ :0 given :neg y ⋆ x :* z ≈ :1) refl e h

  pub field_discrete : (x y : A) → Dec (x ≡ y)
  field_discrete x y = elim (F.zero? (sub R x y)) [
    | yes h ↦ yes (Laws.eq_of_sub R x y h)
    | no h ↦ no (λ e. h (Laws.sub_of_eq R x y e))
  ]
