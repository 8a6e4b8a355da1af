-- Polynomials by coefficients: division by x − r, the factor theorem, and the bound on the number of roots.
use mathlib.Core.Path.{◌≡◌, refl, sym, ◌∙◌, ap, ap₂}
use mathlib.Core.Logic.{◌≢◌}
use mathlib.Core.List.{List, [], ◌∷◌}
use Prim.Native.Nat.{ℕ, zero, suc, ◌≤◌}
use native.Mathlib.Nat.{suc_inj, suc-ne-zero, not-suc-le-zero, le_of_suc-le-suc}
use lib.ListN.{length}
use Rattle.algebra.specs.Ring.{Ring, Domain}
use Rattle.algebra.specs.Polynomial.{All, Distinct, value, IsZero}
use Rattle.algebra.proofs.RingLaws as Laws
use Rattle.algebra.proofs.Expression.{:0, :1, ◌:+◌, ◌:-◌, ◌:*◌, :neg, ◌:=◌, ◌given◌⋆◌≈◌}
use Rattle.algebra.proofs.Solver.{solve}

module _ {A : Type 0} {P Q : A → Type 0} where
  pub all_map : ((s : A) → P s → Q s) → (rs : List A) → All P rs → All Q rs
  all_map h [] a = tt
  all_map h (r ∷ rs) (a, t) = (h r a, all_map h rs t)

module _ {A : Type 0} (R : Ring A) where
  infixl 60 ◌⊕◌ ◌⊖◌
  infixl 70 ◌⊗◌
  open R use {zero as 𝟘, add as ◌⊕◌, mul as ◌⊗◌, neg, add_neg}

  abbrev ◌⊖◌ : A → A → A
  a ⊖ b = a ⊕ neg b

  -- the quotient by x − r
  unfoldable pub quotient : A → List A → List A
  quotient r [] = []
  quotient r (c ∷ []) = []
  quotient r (c ∷ d ∷ p) = value R (d ∷ p) r ∷ quotient r (d ∷ p)

  pub factor : (r x : A) (p : List A) → value R p x ≡ (x ⊖ r) ⊗ value R (quotient r p) x ⊕ value R p r
  unfolding value quotient
  factor r x [] = solve R (x ∷ r ∷ []) (λ x r. :0 := (x :- r) :* :0 :+ :0) refl
  factor r x (c ∷ []) = solve R (x ∷ r ∷ c ∷ []) (λ x r c. c :+ x :* :0 := (x :- r) :* :0 :+ (c :+ r :* :0)) refl
  factor r x (c ∷ d ∷ p) =
      solve R (x ∷ r ∷ c ∷ value R (d ∷ p) x ∷ value R (d ∷ p) r ∷ value R (quotient r (d ∷ p)) x ∷ [])
      (λ x r c u v q. c :+ x :* u := (x :- r) :* (v :+ x :* q) :+ (c :+ r :* v) given x ⋆ u ≈ (x :- r) :* q :+ v)
      refl (factor r x (d ∷ p))

  pub quotient-length : (r : A) (p : List A) (n : ℕ) → length p ≡ suc n → length (quotient r p) ≡ n
  unfolding quotient
  quotient-length r [] n e = absurd (suc-ne-zero n (sym e))
  quotient-length r (c ∷ []) n e = suc_inj e
  quotient-length r (c ∷ d ∷ p) zero e = absurd (suc-ne-zero _ (suc_inj e))
  quotient-length r (c ∷ d ∷ p) (suc n) e = ap suc (quotient-length r (d ∷ p) n (suc_inj e))

  pub zero_of_quotient : (r : A) (p : List A) → All (IsZero R) (quotient r p) → value R p r ≡ 𝟘 → All (IsZero R) p
  unfolding value quotient
  zero_of_quotient r [] z e = tt
  zero_of_quotient r (c ∷ []) z e = (solve R (r ∷ c ∷ []) (λ r c. c := :0 given :1 ⋆ c :+ r :* :0 ≈ :0) refl e, tt)
  zero_of_quotient r (c ∷ d ∷ p) (v, z) e =
      (solve R (r ∷ c ∷ value R (d ∷ p) r ∷ []) (λ r c v. c := :0 given :1 ⋆ c :+ r :* v ≈ :0 given :neg r ⋆ v ≈ :0) refl e v, zero_of_quotient r (d ∷ p) z v)

  module _ (domain : Domain R) where
    -- the other roots are roots of the quotient
    roots_of_quotient : (r : A) (p rs : List A) → value R p r ≡ 𝟘 → All (λ s. s ≢ r) rs → All (λ s. value R p s ≡ 𝟘) rs → All (λ s. value R (quotient r p) s ≡ 𝟘) rs
    roots_of_quotient r p [] e d z = tt
    roots_of_quotient r p (s ∷ rs) e (d, ds) (z, zs) = (
      domain (s ⊖ r) (value R (quotient r p) s) (λ h. d (Laws.eq_of_sub R s r h))
          (solve R (value R p s ∷ value R p r ∷ (s ⊖ r) ⊗ value R (quotient r p) s ∷ []) (λ a b q. q := :0 given :neg :1 ⋆ a ≈ q :+ b given :1 ⋆ a ≈ :0 given :neg :1 ⋆ b ≈ :0) refl (factor r s p) z e),
      roots_of_quotient r p rs e ds zs,
    )

    -- at most n coefficients and n distinct roots: zero
    pub zero_of_roots : (rs p : List A) → length p ≤ length rs → Distinct rs → All (λ s. value R p s ≡ 𝟘) rs → All (IsZero R) p
    zero_of_roots [] [] l d z = tt
    zero_of_roots [] (c ∷ p) l d z = absurd (not-suc-le-zero l)
    zero_of_roots (r ∷ rs) [] l d z = tt
    zero_of_roots (r ∷ rs) (c ∷ p) l (d, ds) (z, zs) =
        zero_of_quotient r (c ∷ p)
        (zero_of_roots rs (quotient r (c ∷ p)) (rw (quotient-length r (c ∷ p) (length p) refl) (le_of_suc-le-suc l)) ds (roots_of_quotient r (c ∷ p) rs z d zs)) z

  -- two polynomials that agree at as many points as they have coefficients
  unfoldable pub minus : List A → List A → List A
  minus [] q = []
  minus (c ∷ p) [] = []
  minus (c ∷ p) (d ∷ q) = (c ⊖ d) ∷ minus p q

  pub value-minus : (p q : List A) (x : A) → length p ≡ length q → value R (minus p q) x ≡ value R p x ⊖ value R q x
  unfolding value minus
  value-minus [] [] x l = sym (add_neg 𝟘)
  value-minus [] (d ∷ q) x l = absurd (suc-ne-zero _ (sym l))
  value-minus (c ∷ p) [] x l = absurd (suc-ne-zero _ l)
  value-minus (c ∷ p) (d ∷ q) x l =
      ap (λ y. (c ⊖ d) ⊕ x ⊗ y) (value-minus p q x (suc_inj l))
      ∙ solve R (c ∷ d ∷ x ∷ value R p x ∷ value R q x ∷ []) (λ c d x p q. (c :- d) :+ x :* (p :- q) := (c :+ x :* p) :- (d :+ x :* q)) refl

  same_of_minus : (p q : List A) → length p ≡ length q → All (IsZero R) (minus p q) → p ≡ q
  unfolding minus
  same_of_minus [] [] l z = refl
  same_of_minus [] (d ∷ q) l z = absurd (suc-ne-zero _ (sym l))
  same_of_minus (c ∷ p) [] l z = absurd (suc-ne-zero _ l)
  same_of_minus (c ∷ p) (d ∷ q) l (z, zs) = ap₂ ◌∷◌ (Laws.eq_of_sub R c d z) (same_of_minus p q (suc_inj l) zs)

  length-minus : (p q : List A) → length p ≡ length q → length (minus p q) ≡ length p
  unfolding minus
  length-minus [] q l = refl
  length-minus (c ∷ p) [] l = absurd (suc-ne-zero _ l)
  length-minus (c ∷ p) (d ∷ q) l = ap suc (length-minus p q (suc_inj l))

  pub same_of_points : Domain R → (p q rs : List A) → length p ≡ length q → length p ≤ length rs → Distinct rs
      → All (λ s. value R p s ≡ value R q s) rs → p ≡ q
  same_of_points domain p q rs l m d h =
      same_of_minus p q l
      (zero_of_roots domain rs (minus p q) (rw (length-minus p q l) m) d
      (all_map (λ s e. value-minus p q s l ∙ Laws.sub_of_eq R (value R p s) (value R q s) e) rs h))
