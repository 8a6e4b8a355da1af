-- The quadratic through values at 0, 1, 2: its values there, the form that the Rust computes, and its degree.
use mathlib.Core.Path.{◌≡◌, refl, ◌∙◌}
use mathlib.Core.List.{List, [], ◌∷◌}
use Rattle.algebra.specs.Ring.{Ring, num}
use Rattle.algebra.specs.Polynomial.{value, Degree}
use Rattle.algebra.proofs.Expression.{con, :0, :1, ◌:+◌, ◌:-◌, ◌:*◌, ◌:=◌, ◌given◌⋆◌≈◌}
use Rattle.algebra.proofs.Solver.{solve}
use Rattle.tables.specs.Quadratic.{quadratic}

module _ {A : Type 0} (R : Ring A) (half : A) (half_two : R.mul half (num R 2) ≡ R.one) where
  infixl 60 ◌⊕◌ ◌⊖◌
  infixl 70 ◌⊗◌
  open R use {zero as 𝟘, one as 𝟙, add as ◌⊕◌, mul as ◌⊗◌, neg}

  abbrev ◌⊖◌ : A → A → A
  a ⊖ b = a ⊕ neg b

  pub quadratic-zero : (s0 s1 s2 : A) → quadratic R half s0 s1 s2 𝟘 ≡ s0
  unfolding quadratic
  quadratic-zero s0 s1 s2 =
      solve R (half ∷ s0 ∷ s1 ∷ s2 ∷ [])
      (λ h s0 s1 s2. h :* (:0 :- :1) :* (:0 :- con 2) :* s0 :+ :0 :* (con 2 :- :0) :* s1 :+ h :* :0 :* (:0 :- :1) :* s2 := s0 given s0 ⋆ h :* con 2 ≈ :1) refl half_two

  pub quadratic_one : (s0 s1 s2 : A) → quadratic R half s0 s1 s2 𝟙 ≡ s1
  unfolding quadratic
  quadratic_one s0 s1 s2 =
      solve R (half ∷ s0 ∷ s1 ∷ s2 ∷ [])
      (λ h s0 s1 s2. h :* (:1 :- :1) :* (:1 :- con 2) :* s0 :+ :1 :* (con 2 :- :1) :* s1 :+ h :* :1 :* (:1 :- :1) :* s2 := s1) refl

  pub quadratic_two : (s0 s1 s2 : A) → quadratic R half s0 s1 s2 (num R 2) ≡ s2
  unfolding quadratic
  quadratic_two s0 s1 s2 =
      solve R (half ∷ s0 ∷ s1 ∷ s2 ∷ [])
      (λ h s0 s1 s2.
      h :* (con 2 :- :1) :* (con 2 :- con 2) :* s0 :+ con 2 :* (con 2 :- con 2) :* s1 :+ h :* con 2 :* (con 2 :- :1) :* s2 := s2
      given s2 ⋆ h :* con 2 ≈ :1)
      refl half_two

  -- the second difference, halved: the coefficient of x²
  abbrev curve : A → A → A → A
  curve s0 s1 s2 = half ⊗ ((s2 ⊖ s1) ⊖ (s1 ⊖ s0))

  -- `interpolate_quadratic_at_012`: with p = half·((s2 − s1) − (s1 − s0)) and q = (s1 − s0) − p, it is (p·x + q)·x + s0
  pub quadratic_horner : (s0 s1 s2 x : A) → quadratic R half s0 s1 s2 x ≡ (curve s0 s1 s2 ⊗ x ⊕ ((s1 ⊖ s0) ⊖ curve s0 s1 s2)) ⊗ x ⊕ s0
  unfolding quadratic
  quadratic_horner s0 s1 s2 x =
      solve R (half ∷ s0 ∷ s1 ∷ s2 ∷ x ∷ [])
      (λ h s0 s1 s2 x.
      h :* (x :- :1) :* (x :- con 2) :* s0 :+ x :* (con 2 :- x) :* s1 :+ h :* x :* (x :- :1) :* s2
      := (h :* ((s2 :- s1) :- (s1 :- s0)) :* x :+ ((s1 :- s0) :- h :* ((s2 :- s1) :- (s1 :- s0)))) :* x :+ s0
      given s0 :* (:1 :- x) :+ s1 :* (x :* x :- x) ⋆ h :* con 2 ≈ :1)
      refl half_two

  -- its coefficients
  abbrev coefficients : A → A → A → List A
  coefficients s0 s1 s2 = s0 ∷ ((s1 ⊖ s0) ⊖ curve s0 s1 s2) ∷ curve s0 s1 s2 ∷ []

  quadratic-value : (s0 s1 s2 x : A) → quadratic R half s0 s1 s2 x ≡ value R (coefficients s0 s1 s2) x
  unfolding value
  quadratic-value s0 s1 s2 x =
      quadratic_horner s0 s1 s2 x
      ∙ solve R (s0 ∷ ((s1 ⊖ s0) ⊖ curve s0 s1 s2) ∷ curve s0 s1 s2 ∷ x ∷ []) (λ s q p x. (p :* x :+ q) :* x :+ s := s :+ x :* (q :+ x :* (p :+ x :* :0))) refl

  pub quadratic_degree : (s0 s1 s2 : A) → Degree R 2 (quadratic R half s0 s1 s2)
  quadratic_degree s0 s1 s2 = (coefficients s0 s1 s2, refl, quadratic-value s0 s1 s2)
