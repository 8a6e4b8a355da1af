-- Degrees of sums and products of polynomials.
use mathlib.Core.Path.{◌≡◌, refl, sym, ◌∙◌, ap, ap₂, subst}
use mathlib.Core.List.{List, [], ◌∷◌, ◌++◌}
use Prim.Native.Nat.{ℕ, zero, suc, ◌+◌, ◌-◌, ◌<◌, ◌≤◌}
use native.Mathlib.Nat
use native.Mathlib.Nat.{suc_inj, suc-ne-zero}
use native.Mathlib.Omega.{arith}
use lib.ListN.{length}
use Rattle.algebra.specs.Ring.{Ring}
use Rattle.algebra.specs.Sum.{sum}
use Rattle.algebra.specs.Polynomial.{value, Degree}
use Rattle.algebra.proofs.RingLaws as Laws
use Rattle.algebra.proofs.Expression.{:0, ◌:+◌, ◌:*◌, ◌:=◌}
use Rattle.algebra.proofs.Solver.{solve}

module _ {A : Type 0} (R : Ring A) where
  infixl 60 ◌⊕◌
  infixl 70 ◌⊗◌
  open R use {zero as 𝟘, add as ◌⊕◌, mul as ◌⊗◌}

  -- coefficient by coefficient
  unfoldable plus : List A → List A → List A
  plus [] q = []
  plus (c ∷ p) [] = []
  plus (c ∷ p) (d ∷ q) = (c ⊕ d) ∷ plus p q

  length-plus : (p q : List A) → length p ≡ length q → length (plus p q) ≡ length p
  unfolding plus
  length-plus [] q l = refl
  length-plus (c ∷ p) [] l = absurd (suc-ne-zero _ l)
  length-plus (c ∷ p) (d ∷ q) l = ap suc (length-plus p q (suc_inj l))

  value-plus : (p q : List A) (x : A) → length p ≡ length q → value R (plus p q) x ≡ value R p x ⊕ value R q x
  unfolding value plus
  value-plus [] [] x l = sym (R.add_zero 𝟘)
  value-plus [] (d ∷ q) x l = absurd (suc-ne-zero _ (sym l))
  value-plus (c ∷ p) [] x l = absurd (suc-ne-zero _ l)
  value-plus (c ∷ p) (d ∷ q) x l =
      ap (λ y. (c ⊕ d) ⊕ x ⊗ y) (value-plus p q x (suc_inj l))
      ∙ solve R (c ∷ d ∷ x ∷ value R p x ∷ value R q x ∷ []) (λ c d x p q. (c :+ d) :+ x :* (p :+ q) := (c :+ x :* p) :+ (d :+ x :* q)) refl

  unfoldable scaled : A → List A → List A
  scaled a [] = []
  scaled a (c ∷ p) = (a ⊗ c) ∷ scaled a p

  length-scaled : (a : A) (p : List A) → length (scaled a p) ≡ length p
  unfolding scaled
  length-scaled a [] = refl
  length-scaled a (c ∷ p) = ap suc (length-scaled a p)

  value-scaled : (a : A) (p : List A) (x : A) → value R (scaled a p) x ≡ a ⊗ value R p x
  unfolding value scaled
  value-scaled a [] x = sym (Laws.mul-zero R a)
  value-scaled a (c ∷ p) x =
      ap (λ y. (a ⊗ c) ⊕ x ⊗ y) (value-scaled a p x) ∙ solve R (a ∷ c ∷ x ∷ value R p x ∷ []) (λ a c x p. a :* c :+ x :* (a :* p) := a :* (c :+ x :* p)) refl

  -- one zero more at the end
  length_snoc : (p : List A) → length (p ++ (𝟘 ∷ [])) ≡ suc (length p)
  length_snoc [] = refl
  length_snoc (c ∷ p) = ap suc (length_snoc p)

  value_snoc : (p : List A) (x : A) → value R (p ++ (𝟘 ∷ [])) x ≡ value R p x
  unfolding value
  value_snoc [] x = solve R (x ∷ []) (λ x. :0 :+ x :* :0 := :0) refl
  value_snoc (c ∷ p) x = ap (λ y. c ⊕ x ⊗ y) (value_snoc p x)

  pub degree_same : (d : ℕ) (f g : A → A) → ((x : A) → g x ≡ f x) → Degree R d f → Degree R d g
  degree_same d f g h (p, l, e) = (p, l, λ x. h x ∙ e x)

  pub degree_add : (d : ℕ) (f g : A → A) → Degree R d f → Degree R d g → Degree R d (λ x. f x ⊕ g x)
  degree_add d f g (p, l, e) (q, m, k) = (plus p q, length-plus p q (l ∙ sym m) ∙ l, λ x. ap₂ ◌⊕◌ (e x) (k x) ∙ sym (value-plus p q x (l ∙ sym m)))

  pub degree_scale : (d : ℕ) (a : A) (f : A → A) → Degree R d f → Degree R d (λ x. a ⊗ f x)
  degree_scale d a f (p, l, e) = (scaled a p, length-scaled a p ∙ l, λ x. ap (λ y. a ⊗ y) (e x) ∙ sym (value-scaled a p x))

  degree_more : (d : ℕ) (f : A → A) → Degree R d f → Degree R (suc d) f
  degree_more d f (p, l, e) = (p ++ (𝟘 ∷ []), length_snoc p ∙ ap suc l, λ x. e x ∙ sym (value_snoc p x))

  degree_shift : (d : ℕ) (f : A → A) → Degree R d f → Degree R (suc d) (λ x. x ⊗ f x)
  unfolding value
  degree_shift d f (p, l, e) = (𝟘 ∷ p, ap suc l, λ x. ap (λ y. x ⊗ y) (e x) ∙ sym (Laws.zero-add R (x ⊗ value R p x)))

  degree_raise : (k d : ℕ) (f : A → A) → Degree R d f → Degree R (k + d) f
  degree_raise zero d f h = subst (λ n. Degree R n f) (sym (Nat.zero-add d)) h
  degree_raise (suc k) d f h = subst (λ n. Degree R n f) (sym (Nat.suc-add k d)) (degree_more (k + d) f (degree_raise k d f h))

  pub degree_up : (d e : ℕ) (f : A → A) → d ≤ e → Degree R d f → Degree R e f
  degree_up d e f l h = subst (λ n. Degree R n f) {x = (e - d) + d} {y = e} (omega arith) (degree_raise (e - d) d f h)

  pub degree_const : (a : A) → Degree R 0 (λ x. a)
  unfolding value
  degree_const a = (a ∷ [], refl, λ x. solve R (a ∷ x ∷ []) (λ a x. a := a :+ x :* :0) refl)

  pub degree_sum : (d n : ℕ) (f : ℕ → A → A) → ((i : ℕ) → i < n → Degree R d (f i)) → Degree R d (λ x. sum R n (λ i. f i x))
  unfolding sum
  degree_sum d zero f h = degree_up 0 d (λ x. 𝟘) (omega arith) (degree_const 𝟘)
  degree_sum d (suc n) f h = degree_add d (λ x. sum R n (λ i. f i x)) (f n) (degree_sum d n f (λ i l. h i (omega arith))) (h n (Nat.le_refl (suc n)))

  by_coefficients : (p : List A) (a b : ℕ) (g : A → A) → length p ≡ suc a → Degree R b g → Degree R (a + b) (λ x. value R p x ⊗ g x)
  unfolding value
  by_coefficients [] a b g l h = absurd (suc-ne-zero a (sym l))
  by_coefficients (c ∷ []) zero b g l h =
      subst (λ n. Degree R n (λ x. value R (c ∷ []) x ⊗ g x)) (sym (Nat.zero-add b))
      (degree_same b (λ x. c ⊗ g x) _ (λ x. solve R (c ∷ x ∷ g x ∷ []) (λ c x g. (c :+ x :* :0) :* g := c :* g) refl) (degree_scale b c g h))
  by_coefficients (c ∷ []) (suc a) b g l h = absurd (suc-ne-zero a (sym (suc_inj l)))
  by_coefficients (c ∷ d ∷ p) zero b g l h = absurd (suc-ne-zero _ (suc_inj l))
  by_coefficients (c ∷ d ∷ p) (suc a) b g l h =
      subst (λ n. Degree R n (λ x. value R (c ∷ d ∷ p) x ⊗ g x)) (sym (Nat.suc-add a b))
      (degree_same (suc (a + b)) (λ x. c ⊗ g x ⊕ x ⊗ (value R (d ∷ p) x ⊗ g x)) _
      (λ x. solve R (c ∷ x ∷ value R (d ∷ p) x ∷ g x ∷ []) (λ c x v g. (c :+ x :* v) :* g := c :* g :+ x :* (v :* g)) refl)
      (degree_add (suc (a + b)) (λ x. c ⊗ g x) (λ x. x ⊗ (value R (d ∷ p) x ⊗ g x)) (degree_up b (suc (a + b)) (λ x. c ⊗ g x) (omega arith) (degree_scale b c g h))
      (degree_shift (a + b) (λ x. value R (d ∷ p) x ⊗ g x) (by_coefficients (d ∷ p) a b g (suc_inj l) h))))

  pub degree_mul : (a b : ℕ) (f g : A → A) → Degree R a f → Degree R b g → Degree R (a + b) (λ x. f x ⊗ g x)
  degree_mul a b f g (p, l, e) h = degree_same (a + b) (λ x. value R p x ⊗ g x) _ (λ x. ap (λ y. y ⊗ g x) (e x)) (by_coefficients p a b g l h)
