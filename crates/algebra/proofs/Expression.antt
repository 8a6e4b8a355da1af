-- Equations over variables, and their normal form: a sorted list of terms in which like ones are brought together.
use mathlib.Core.Path.{◌≡◌, refl, ap₂}
use mathlib.Core.List.{List, [], ◌∷◌}
use mathlib.Core.Bool.{Bool, true, false}
use Prim.Native.Nat.{ℕ, zero, suc, ◌+◌, ◌*◌, compare, Ordering}
use lib.Dec.{T, compare_is_eq, eqb, leb, eqb→eq}

infixl 60 ◌:+◌ ◌:-◌
infixl 70 ◌:*◌
infixr 80 ◌:^◌
infix 50 ◌:=◌
infixl 40 ◌given◌⋆◌≈◌
-- what is written: expressions over variables, and an equation between two, perhaps given others
pub data Expr : Type 0 where
  var con : ℕ → Expr
  :0 :1 : Expr
  ◌:+◌ ◌:-◌ ◌:*◌ : Expr → Expr → Expr
  :neg : Expr → Expr
  ◌:^◌ : Expr → ℕ → Expr

-- `l := r given c ⋆ u ≈ v`: l − r is c · (u − v)
pub data Goal : Type 0 where
  ◌:=◌ : Expr → Expr → Goal
  ◌given◌⋆◌≈◌ : Goal → Expr → Expr → Expr → Goal

abbrev pub OrdEq : Ordering → Type 0
OrdEq o = T (compare_is_eq o)

-- a choice whose branches wait
module _ {X : Type 0} where
  abbrev pub pick : Bool → (Unit {0} → X) → (Unit {0} → X) → X
  pick true f g = f tt
  pick false f g = g tt

  abbrev pub pick3 : Ordering → (Unit {0} → X) → (Unit {0} → X) → (Unit {0} → X) → X
  pick3 Ordering.lt f g h = f tt
  pick3 Ordering.eq f g h = g tt
  pick3 Ordering.gt f g h = h tt

  pub pick_ind : (P : X → Type 0) (b : Bool) (f g : Unit {0} → X) → P (f tt) → P (g tt) → P (pick b f g)
  pick_ind P true f g p q = p
  pick_ind P false f g p q = q

  pub pick_t_ind : (P : X → Type 0) (b : Bool) (f g : Unit {0} → X) → (T b → P (f tt)) → P (g tt) → P (pick b f g)
  pick_t_ind P true f g p q = p tt
  pick_t_ind P false f g p q = q

  pub pick3-ind : (P : X → Type 0) (o : Ordering) (f g h : Unit {0} → X) → P (f tt) → (OrdEq o → P (g tt)) → P (h tt) → P (pick3 o f g h)
  pick3-ind P Ordering.lt f g h p q r = p
  pick3-ind P Ordering.eq f g h p q r = q tt
  pick3-ind P Ordering.gt f g h p q r = r

-- a monomial: its variables in ascending order, each as often as its power
abbrev pub cmp_m : List ℕ → List ℕ → Ordering
cmp_m [] [] = Ordering.eq
cmp_m [] (y ∷ n) = Ordering.gt
cmp_m (x ∷ m) [] = Ordering.lt
cmp_m (x ∷ m) (y ∷ n) = pick3 (compare x y) (λ _. Ordering.lt) (λ _. cmp_m m n) (λ _. Ordering.gt)

abbrev pub ins_v : ℕ → List ℕ → List ℕ
ins_v v [] = v ∷ []
ins_v v (w ∷ m) = pick (leb v w) (λ _. v ∷ w ∷ m) (λ _. w ∷ ins_v v m)

abbrev pub mul_m : List ℕ → List ℕ → List ℕ
mul_m [] n = n
mul_m (v ∷ m) n = ins_v v (mul_m m n)

-- a polynomial: terms (a − b) · m, in the order of cmp_m
pub data Poly : Type 0 where
  nil : Poly
  tm : ℕ → ℕ → List ℕ → Poly → Poly

abbrev pub into : ℕ → ℕ → List ℕ → (Poly → Poly) → Poly → Poly
into a b m f nil = tm a b m (f nil)
into a b m f (tm c d n q) =
    pick3 (cmp_m m n) (λ _. tm a b m (f (tm c d n q))) (λ _. tm (a + c) (b + d) m (f q)) (λ _. tm c d n (into a b m f q))

abbrev pub add_p : Poly → Poly → Poly
add_p nil q = q
add_p (tm a b m p) q = into a b m (add_p p) q

abbrev pub mul_t : ℕ → ℕ → List ℕ → Poly → Poly
mul_t a b m nil = nil
mul_t a b m (tm c d n q) = tm (a * c + b * d) (a * d + b * c) (mul_m m n) (mul_t a b m q)

abbrev pub mul_p : Poly → Poly → Poly
mul_p nil q = nil
mul_p (tm a b m p) q = add_p (mul_t a b m q) (mul_p p q)

abbrev pub neg_p : Poly → Poly
neg_p nil = nil
neg_p (tm a b m p) = tm b a m (neg_p p)

abbrev pub pow_p : Poly → ℕ → Poly
pow_p p zero = tm 1 0 [] nil
pow_p p (suc n) = mul_p p (pow_p p n)

-- without the terms that are zero
abbrev pub strip : Poly → Poly
strip nil = nil
strip (tm a b m p) = pick (eqb a b) (λ _. strip p) (λ _. tm a b m (strip p))

abbrev pub norm : Expr → Poly
norm (var i) = tm 1 0 (i ∷ []) nil
norm (con n) = tm n 0 [] nil
norm :0 = nil
norm :1 = tm 1 0 [] nil
norm (e :+ f) = add_p (norm e) (norm f)
norm (e :- f) = add_p (norm e) (neg_p (norm f))
norm (e :* f) = mul_p (norm e) (norm f)
norm (:neg e) = neg_p (norm e)
norm (e :^ n) = pow_p (norm e) n

-- the equation itself, and the hypotheses' part of it
abbrev pub lhs : Goal → Expr
lhs (l := r) = l
lhs (g given c ⋆ u ≈ v) = lhs g

abbrev pub rhs : Goal → Expr
rhs (l := r) = r
rhs (g given c ⋆ u ≈ v) = rhs g

abbrev pub due : Goal → Expr
due (l := r) = :0
due (g given c ⋆ u ≈ v) = due g :+ c :* (u :- v)

-- what is left of the equation: nil where it holds in every commutative ring
abbrev pub rest : Goal → Poly
rest g = strip (norm (lhs g :- rhs g :- due g))

both3 : (o r : Ordering) → OrdEq (pick3 o (λ _. Ordering.lt) (λ _. r) (λ _. Ordering.gt)) → OrdEq o × OrdEq r
both3 Ordering.eq r t = (tt, t)
both3 Ordering.lt r t = elim t [ ]
both3 Ordering.gt r t = elim t [ ]

pub cmp_m_eq : (m n : List ℕ) → OrdEq (cmp_m m n) → m ≡ n
cmp_m_eq [] [] t = refl
cmp_m_eq [] (y ∷ n) t = elim t [ ]
cmp_m_eq (x ∷ m) [] t = elim t [ ]
cmp_m_eq (x ∷ m) (y ∷ n) t = let (s, r) = both3 (compare x y) (cmp_m m n) t in ap₂ ◌∷◌ (eqb→eq x y s) (cmp_m_eq m n r)
