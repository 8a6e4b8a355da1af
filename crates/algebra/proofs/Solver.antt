-- A solver of equations in a commutative ring, by computation: both sides are brought to normal form, which keeps the value.
-- `solve R (x ∷ y ∷ []) (λ x y. (x :+ y) :* (x :- y) := x :* x :- y :* y) refl` proves the equation that it reads as.
use mathlib.Core.Path.{◌≡◌, refl, sym, ◌∙◌, ap, ap₂}
use mathlib.Core.List.{List, [], ◌∷◌}
use Prim.Native.Nat.{ℕ, zero, suc, ◌+◌, ◌*◌}
use native.Mathlib.Nat
use lib.Dec.{eqb, leb, eqb→eq}
use Rattle.algebra.specs.Ring.{Ring, num, pow}
use Rattle.algebra.proofs.RingLaws as Laws
use Rattle.algebra.proofs.Expression.{
  Expr,
  var,
  con,
  :0,
  :1,
  ◌:+◌,
  ◌:-◌,
  ◌:*◌,
  :neg,
  ◌:^◌,
  Goal,
  ◌:=◌,
  ◌given◌⋆◌≈◌,
  lhs,
  rhs,
  due,
  rest,
  pick_ind,
  pick_t_ind,
  pick3-ind,
  Poly,
  nil,
  tm,
  cmp_m,
  cmp_m_eq,
  ins_v,
  mul_m,
  into,
  add_p,
  mul_t,
  mul_p,
  neg_p,
  pow_p,
  strip,
  norm,
}

-- a function of as many expressions as the list is long, and that function at the variables
module _ {A : Type 0} where
  abbrev pub Over : List A → Type 0
  Over [] = Goal
  Over (x ∷ ρ) = Expr → Over ρ

  abbrev pub close : (ρ : List A) → ℕ → Over ρ → Goal
  close [] i f = f
  close (x ∷ ρ) i f = close ρ (suc i) (f (var i))

module _ {A : Type 0} (R : Ring A) where
  infixl 60 ◌⊕◌
  infixl 70 ◌⊗◌
  open R use {zero as 𝟘, one as 𝟙, add as ◌⊕◌, mul as ◌⊗◌, neg, add_assoc, add_comm, add_zero, add_neg, mul_assoc, mul_one, mul_add}

  pub num_one : num R 1 ≡ 𝟙
  unfolding num
  num_one = add_zero 𝟙

  pub num-add : (a b : ℕ) → num R (a + b) ≡ num R a ⊕ num R b
  unfolding num
  num-add zero b = ap (num R) (Nat.zero-add b) ∙ sym (Laws.zero-add R (num R b))
  num-add (suc a) b = ap (num R) (Nat.suc-add a b) ∙ ap (λ x. 𝟙 ⊕ x) (num-add a b) ∙ sym (add_assoc 𝟙 (num R a) (num R b))

  pub num-mul : (a b : ℕ) → num R (a * b) ≡ num R a ⊗ num R b
  unfolding num
  num-mul zero b = ap (num R) (Nat.zero-mul b) ∙ sym (Laws.zero-mul R (num R b))
  num-mul (suc a) b =
      ap (num R) (Nat.suc-mul a b) ∙ num-add (a * b) b ∙ add_comm (num R (a * b)) (num R b)
      ∙ ap₂ ◌⊕◌ (sym (Laws.one_mul R (num R b))) (num-mul a b) ∙ sym (Laws.add-mul R 𝟙 (num R a) (num R b))

  abbrev pub at : List A → ℕ → A
  at [] i = 𝟘
  at (x ∷ ρ) zero = x
  at (x ∷ ρ) (suc i) = at ρ i

  module _ (ρ : List A) where
    abbrev pub eval : Expr → A
    eval (var i) = at ρ i
    eval (con n) = num R n
    eval :0 = 𝟘
    eval :1 = 𝟙
    eval (e :+ f) = eval e ⊕ eval f
    eval (e :- f) = eval e ⊕ neg (eval f)
    eval (e :* f) = eval e ⊗ eval f
    eval (:neg e) = neg (eval e)
    eval (e :^ n) = pow R (eval e) n

    -- X, from the hypotheses of a goal, in order
    abbrev pub From : Goal → Type 0 → Type 0
    From (l := r) X = X
    From (g given c ⋆ u ≈ v) X = From g (eval u ≡ eval v → X)

    abbrev pub Holds : Goal → Type 0
    Holds g = From g (eval (lhs g) ≡ eval (rhs g))

  -- the number a − b
  coef : ℕ → ℕ → A
  coef a b = num R a ⊕ neg (num R b)

  coef_add : (a b c d : ℕ) → coef (a + c) (b + d) ≡ coef a b ⊕ coef c d
  unfolding coef
  coef_add a b c d =
      ap₂ (λ x y. x ⊕ neg y) (num-add a c) (num-add b d) ∙ ap (λ x. num R a ⊕ num R c ⊕ x) (Laws.neg-plus R (num R b) (num R d))
      ∙ Laws.add_swap R (num R a) (num R c) (neg (num R b)) (neg (num R d))

  coef_neg : (a b : ℕ) → coef b a ≡ neg (coef a b)
  unfolding coef
  coef_neg a b =
      add_comm (num R b) (neg (num R a)) ∙ ap (λ x. neg (num R a) ⊕ x) (sym (Laws.neg-neg R (num R b)))
      ∙ sym (Laws.neg-plus R (num R a) (neg (num R b)))

  coef_same : (a b : ℕ) → a ≡ b → coef a b ≡ 𝟘
  unfolding coef
  coef_same a b e = ap (λ x. num R x ⊕ neg (num R b)) e ∙ add_neg (num R b)

  coef_mul : (a b c d : ℕ) → coef (a * c + b * d) (a * d + b * c) ≡ coef a b ⊗ coef c d
  unfolding coef
  coef_mul a b c d = simp (coef, num-add, num-mul, Laws.neg-plus R, mul_add, Laws.add-mul R, Laws.neg-mul R, Laws.mul-neg R, Laws.neg-neg R, add_assoc, add_comm, Laws.add_left_comm R)

  one_coef : (n : ℕ) {x : A} → num R n ≡ x → coef n 0 ≡ x
  unfolding coef num
  one_coef n p = ap₂ ◌⊕◌ p (Laws.neg-zero R) ∙ add_zero _

  -- what a monomial and a polynomial are worth
  module _ (ρ : List A) where
    ev_m : List ℕ → A
    ev_m [] = 𝟙
    ev_m (v ∷ m) = at ρ v ⊗ ev_m m

    ev_p : Poly → A
    ev_p nil = 𝟘
    ev_p (tm a b m p) = coef a b ⊗ ev_m m ⊕ ev_p p

    ins_v_sound : (v : ℕ) (m : List ℕ) → ev_m (ins_v v m) ≡ at ρ v ⊗ ev_m m
    unfolding ev_m
    ins_v_sound v [] = refl
    ins_v_sound v (w ∷ m) =
        pick_ind (λ l. ev_m l ≡ at ρ v ⊗ ev_m (w ∷ m)) (leb v w) _ _ refl
        (ap (λ x. at ρ w ⊗ x) (ins_v_sound v m) ∙ Laws.mul_left_comm R (at ρ w) (at ρ v) (ev_m m))

    mul_m_sound : (m n : List ℕ) → ev_m (mul_m m n) ≡ ev_m m ⊗ ev_m n
    unfolding ev_m
    mul_m_sound [] n = sym (Laws.one_mul R (ev_m n))
    mul_m_sound (v ∷ m) n = ins_v_sound v (mul_m m n) ∙ ap (λ x. at ρ v ⊗ x) (mul_m_sound m n) ∙ sym (mul_assoc (at ρ v) (ev_m m) (ev_m n))

    into_sound : (a b : ℕ) (m : List ℕ) (f : Poly → Poly) (x : A) → ((q : Poly) → ev_p (f q) ≡ x ⊕ ev_p q)
        → (q : Poly) → ev_p (into a b m f q) ≡ (coef a b ⊗ ev_m m ⊕ x) ⊕ ev_p q
    unfolding ev_p
    into_sound a b m f x h nil = ap (λ y. coef a b ⊗ ev_m m ⊕ y) (h nil) ∙ sym (add_assoc (coef a b ⊗ ev_m m) x 𝟘)
    into_sound a b m f x h (tm c d n q) =
        pick3-ind (λ l. ev_p l ≡ (coef a b ⊗ ev_m m ⊕ x) ⊕ ev_p (tm c d n q)) (cmp_m m n) _ _ _
        (ap (λ y. coef a b ⊗ ev_m m ⊕ y) (h (tm c d n q)) ∙ sym (add_assoc (coef a b ⊗ ev_m m) x _))
        (λ e. ap₂ (λ k y. k ⊗ ev_m m ⊕ y) (coef_add a b c d) (h q) ∙ ap (λ y. y ⊕ (x ⊕ ev_p q)) (Laws.add-mul R (coef a b) (coef c d) (ev_m m))
        ∙ Laws.add_swap R (coef a b ⊗ ev_m m) (coef c d ⊗ ev_m m) x (ev_p q)
        ∙ ap (λ l. (coef a b ⊗ ev_m m ⊕ x) ⊕ (coef c d ⊗ ev_m l ⊕ ev_p q)) (cmp_m_eq m n e))
        (ap (λ y. coef c d ⊗ ev_m n ⊕ y) (into_sound a b m f x h q) ∙ Laws.add_left_comm R (coef c d ⊗ ev_m n) (coef a b ⊗ ev_m m ⊕ x) (ev_p q))

    add_p_sound : (p q : Poly) → ev_p (add_p p q) ≡ ev_p p ⊕ ev_p q
    unfolding ev_p
    add_p_sound nil q = sym (Laws.zero-add R (ev_p q))
    add_p_sound (tm a b m p) q = into_sound a b m (add_p p) (ev_p p) (add_p_sound p) q

    mul_t_sound : (a b : ℕ) (m : List ℕ) (q : Poly) → ev_p (mul_t a b m q) ≡ coef a b ⊗ ev_m m ⊗ ev_p q
    unfolding ev_p
    mul_t_sound a b m nil = sym (Laws.mul-zero R (coef a b ⊗ ev_m m))
    mul_t_sound a b m (tm c d n q) =
        ap₂ ◌⊕◌ (ap₂ ◌⊗◌ (coef_mul a b c d) (mul_m_sound m n) ∙ simp (mul_assoc, Laws.mul_left_comm R (coef c d) (ev_m m) (ev_m n))) (mul_t_sound a b m q)
        ∙ sym (mul_add (coef a b ⊗ ev_m m) (coef c d ⊗ ev_m n) (ev_p q))

    mul_p_sound : (p q : Poly) → ev_p (mul_p p q) ≡ ev_p p ⊗ ev_p q
    unfolding ev_p
    mul_p_sound nil q = sym (Laws.zero-mul R (ev_p q))
    mul_p_sound (tm a b m p) q =
        add_p_sound (mul_t a b m q) (mul_p p q) ∙ ap₂ ◌⊕◌ (mul_t_sound a b m q) (mul_p_sound p q)
        ∙ sym (Laws.add-mul R (coef a b ⊗ ev_m m) (ev_p p) (ev_p q))

    neg_p_sound : (p : Poly) → ev_p (neg_p p) ≡ neg (ev_p p)
    unfolding ev_p
    neg_p_sound nil = sym (Laws.neg-zero R)
    neg_p_sound (tm a b m p) =
        ap₂ (λ x y. x ⊗ ev_m m ⊕ y) (coef_neg a b) (neg_p_sound p) ∙ ap (λ x. x ⊕ neg (ev_p p)) (Laws.neg-mul R (coef a b) (ev_m m))
        ∙ sym (Laws.neg-plus R (coef a b ⊗ ev_m m) (ev_p p))

    pow_p_sound : (p : Poly) (n : ℕ) → ev_p (pow_p p n) ≡ pow R (ev_p p) n
    unfolding ev_p ev_m pow coef num
    pow_p_sound p zero = add_zero _ ∙ mul_one (coef 1 0) ∙ one_coef 1 num_one
    pow_p_sound p (suc n) = mul_p_sound p (pow_p p n) ∙ ap (λ x. ev_p p ⊗ x) (pow_p_sound p n)

    strip_sound : (p : Poly) → ev_p p ≡ ev_p (strip p)
    unfolding ev_p
    strip_sound nil = refl
    strip_sound (tm a b m p) =
        pick_t_ind (λ q. ev_p (tm a b m p) ≡ ev_p q) (eqb a b) _ _
        (λ t. ap₂ (λ x y. x ⊗ ev_m m ⊕ y) (coef_same a b (eqb→eq a b t)) (strip_sound p)
        ∙ ap (λ x. x ⊕ ev_p (strip p)) (Laws.zero-mul R (ev_m m)) ∙ Laws.zero-add R (ev_p (strip p)))
        (ap (λ y. coef a b ⊗ ev_m m ⊕ y) (strip_sound p))

    norm_sound : (e : Expr) → ev_p (norm e) ≡ eval ρ e
    unfolding ev_p ev_m coef num
    norm_sound (var i) = add_zero _ ∙ ap₂ ◌⊗◌ (one_coef 1 num_one) (mul_one (at ρ i)) ∙ Laws.one_mul R (at ρ i)
    norm_sound (con n) = add_zero _ ∙ mul_one (coef n 0) ∙ one_coef n refl
    norm_sound :0 = refl
    norm_sound :1 = add_zero _ ∙ mul_one (coef 1 0) ∙ one_coef 1 num_one
    norm_sound (e :+ f) = add_p_sound (norm e) (norm f) ∙ ap₂ ◌⊕◌ (norm_sound e) (norm_sound f)
    norm_sound (e :- f) = add_p_sound (norm e) (neg_p (norm f)) ∙ ap₂ ◌⊕◌ (norm_sound e) (neg_p_sound (norm f) ∙ ap neg (norm_sound f))
    norm_sound (e :* f) = mul_p_sound (norm e) (norm f) ∙ ap₂ ◌⊗◌ (norm_sound e) (norm_sound f)
    norm_sound (:neg e) = neg_p_sound (norm e) ∙ ap neg (norm_sound e)
    norm_sound (e :^ n) = pow_p_sound (norm e) n ∙ ap (λ x. pow R x n) (norm_sound e)

    from-due : (g : Goal) {X : Type 0} → (eval ρ (due g) ≡ 𝟘 → X) → From ρ g X
    from-due (l := r) k = k refl
    from-due (g given c ⋆ u ≈ v) k =
        from-due g
        (λ s h. k (ap₂ ◌⊕◌ s (ap (λ x. eval ρ c ⊗ x) (Laws.sub_of_eq R (eval ρ u) (eval ρ v) h) ∙ Laws.mul-zero R (eval ρ c)) ∙ add_zero 𝟘))

    -- the solver at a goal
    pub prove : (g : Goal) → rest g ≡ nil → Holds ρ g
    unfolding ev_p
    prove g t =
        let e : Expr = lhs g :- rhs g :- due g in
        from-due g
        (λ s. Laws.eq_of_sub R (eval ρ (lhs g)) (eval ρ (rhs g))
        (Laws.eq_of_sub R _ (eval ρ (due g)) (sym (norm_sound e) ∙ strip_sound (norm e) ∙ ap ev_p t) ∙ s))

    -- the solver: `refl` proves the second argument where the equation holds in every commutative ring
    pub solve : (f : Over ρ) → rest (close ρ 0 f) ≡ nil → Holds ρ (close ρ 0 f)
    solve f t = prove (close ρ 0 f) t
