-- Polynomials of degree at most 1 in a coordinate: entry i of an eq table, and those that their values at 0 and 1 fix.
use mathlib.Core.Path.{◌≡◌, refl, sym, ◌∙◌, ap₂}
use mathlib.Core.List.{List, [], ◌∷◌, ◌++◌}
use Prim.Native.Nat.{ℕ, zero, suc, ◌+◌, ◌*◌, ◌/◌, ◌%◌}
use native.Mathlib.Nat
use native.Mathlib.Omega.{arith}
use lib.ListN.{length}
use Rattle.algebra.specs.Ring.{Ring}
use Rattle.algebra.specs.Polynomial.{value, Degree}
use Rattle.algebra.specs.Multilinear.{bit_factor, cube_factor, mle, line, fold_mle, bit, bits}
use Rattle.algebra.proofs.Expression.{:0, :1, ◌:+◌, ◌:-◌, ◌:*◌, :neg, ◌:=◌, ◌given◌⋆◌≈◌}
use Rattle.algebra.proofs.Solver.{solve}
use Rattle.algebra.proofs.Degrees.{degree_same, degree_scale}
use Rattle.algebra.proofs.Multilinears.{mle_nil, mle_cong, mle_fold}
use Rattle.algebra.proofs.Corners.{length-bits}

module _ {A : Type 0} (R : Ring A) where
  infixl 70 ◌⊗◌
  open R use {zero as 𝟘, one as 𝟙, mul as ◌⊗◌, neg, mul_comm}

  -- entry i of an eq table, in each coordinate
  bit_degree : (b : ℕ) → Degree R 1 (λ x. bit_factor R x b)
  unfolding bit_factor value
  bit_degree zero = (𝟙 ∷ neg 𝟙 ∷ [], refl, λ x. solve R (x ∷ []) (λ x. :1 :- x := :1 :+ x :* (:neg :1 :+ x :* :0)) refl)
  bit_degree (suc b) = (𝟘 ∷ 𝟙 ∷ [], refl, λ x. solve R (x ∷ []) (λ x. x := :0 :+ x :* (:1 :+ x :* :0)) refl)

  pub cube_degree : (xs ys : List A) (i : ℕ) → Degree R 1 (λ x. cube_factor R (xs ++ (x ∷ ys)) i)
  unfolding cube_factor
  cube_degree [] ys i =
      degree_same R 1 (λ x. cube_factor R ys (i / 2) ⊗ bit_factor R x (i % 2)) _ (λ x. mul_comm _ _)
      (degree_scale R 1 (cube_factor R ys (i / 2)) (λ x. bit_factor R x (i % 2)) (bit_degree (i % 2)))
  cube_degree (u ∷ xs) ys i = degree_scale R 1 (bit_factor R u (i % 2)) (λ x. cube_factor R (xs ++ (x ∷ ys)) (i / 2)) (cube_degree xs ys (i / 2))

  -- the line through the values at 0 and 1
  degree_line : {g : A → A} → Degree R 1 g → (x : A) → g x ≡ line R (g 𝟘) (g 𝟙) x
  unfolding value line
  degree_line {g} ([], l, e) x = absurd (omega (arith, l))
  degree_line {g} (a ∷ [], l, e) x = absurd (omega (arith, l))
  degree_line {g} (a ∷ c ∷ [], l, e) x =
      solve R (g x ∷ g 𝟘 ∷ g 𝟙 ∷ a ∷ c ∷ x ∷ [])
      (λ g f h a c x. g := f :+ (h :- f) :* x
      given :1 ⋆ g ≈ a :+ x :* (c :+ x :* :0)
      given x :- :1 ⋆ f ≈ a :+ :0 :* (c :+ :0 :* :0)
      given :neg x ⋆ h ≈ a :+ :1 :* (c :+ :1 :* :0))
      refl (e x) (e 𝟘) (e 𝟙)
  degree_line {g} (a ∷ c ∷ d ∷ cs, l, e) x = absurd (omega (arith, l))

  -- of degree at most 1 in each of n coordinates: the multilinear polynomial through the values at the corners
  pub degree_mle : (n : ℕ) (g : List A → A) → ((xs ys : List A) → length xs + suc (length ys) ≡ n → Degree R 1 (λ x. g (xs ++ (x ∷ ys))))
      → (xs : List A) → length xs ≡ n → g xs ≡ mle R (λ y. g (bits R n y)) xs
  unfolding bits bit fold_mle
  degree_mle zero g b [] e = sym (mle_nil R _)
  degree_mle zero g b (x ∷ xs) e = absurd (omega arith)
  degree_mle (suc n) g b [] e = absurd (omega arith)
  degree_mle (suc n) g b (x ∷ xs) e =
      degree_mle n (λ ys. g (x ∷ ys)) (λ us ys h. b (x ∷ us) ys (omega arith)) xs (omega arith)
      ∙ mle_cong R _ _ xs (λ y _.
      degree_line (b [] (bits R n y) (omega (arith, length-bits R n y))) x ∙ ap₂ (λ s t. line R s t x) (even y) (odd y))
      ∙ sym (mle_fold R (λ y. g (bits R (suc n) y)) x xs)
    where
      even : (y : ℕ) → g (𝟘 ∷ bits R n y) ≡ g (bits R (suc n) (2 * y))
      even y = sym (ap₂ (λ r q. g (bit R r ∷ bits R n q)) (Nat.mul-mod_right 2 y) (Nat.mul-div_right y (omega arith)))

      odd : (y : ℕ) → g (𝟙 ∷ bits R n y) ≡ g (bits R (suc n) (2 * y + 1))
      odd y = sym (ap₂ (λ r q. g (bit R r ∷ bits R n q)) (Nat.mul-add-mod_self_left 2 y 1) (Nat.mul-add-div (omega arith) y 1 ∙ Nat.add-zero y))
