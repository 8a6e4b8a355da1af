-- R[√t] is a commutative ring; it is a field where R is one and t is no square in it; and then √t is no square in it if −1 is one in R.
use mathlib.Core.Path.{◌≡◌, refl, ap}
use mathlib.Core.Logic.{◌≢◌}
use mathlib.Core.List.{[], ◌∷◌}
use Rattle.algebra.specs.Ring.{Ring, IsField}
use Rattle.algebra.specs.Quadratic.{qadd, qmul, qneg}
use Rattle.algebra.proofs.Expression.{:0, :1, ◌:+◌, ◌:-◌, ◌:*◌, :neg, ◌:=◌, ◌given◌⋆◌≈◌}
use Rattle.algebra.proofs.Solver.{solve}
use Rattle.algebra.proofs.Fields.{field_domain}

pub pair : {A B : Type 0} {a c : A} {b d : B} → a ≡ c → b ≡ d → ◌≡◌ {A = A × B} (a, b) (c, d)
pair e f = λ i. (e i, f i)

module _ {A : Type 0} (R : Ring A) (t : A) where
  infixl 60 ◌⊕◌ ◌⊖◌
  infixl 70 ◌⊗◌
  open R use {zero as 𝟘, one as 𝟙, add as ◌⊕◌, mul as ◌⊗◌, neg, add_assoc, add_comm, add_zero, add_neg, mul_comm, mul_one}

  abbrev ◌⊖◌ : A → A → A
  a ⊖ b = a ⊕ neg b

  pub qadd_assoc : (x y z : A × A) → qadd R t (qadd R t x y) z ≡ qadd R t x (qadd R t y z)
  unfolding qadd
  qadd_assoc x y z = pair (add_assoc x.0 y.0 z.0) (add_assoc x.1 y.1 z.1)

  pub qadd_comm : (x y : A × A) → qadd R t x y ≡ qadd R t y x
  unfolding qadd
  qadd_comm x y = pair (add_comm x.0 y.0) (add_comm x.1 y.1)

  pub qadd-zero : (x : A × A) → qadd R t x (𝟘, 𝟘) ≡ x
  unfolding qadd
  qadd-zero x = pair (add_zero x.0) (add_zero x.1)

  pub qadd-neg : (x : A × A) → qadd R t x (qneg R t x) ≡ (𝟘, 𝟘)
  unfolding qadd qneg
  qadd-neg x = pair (add_neg x.0) (add_neg x.1)

  pub qmul_assoc : (x y z : A × A) → qmul R t (qmul R t x y) z ≡ qmul R t x (qmul R t y z)
  unfolding qmul
  qmul_assoc (a, b) (c, d) (e, f) =
      pair
      (solve R (a ∷ b ∷ c ∷ d ∷ e ∷ f ∷ t ∷ [])
      (λ a b c d e f t. (a :* c :+ t :* (b :* d)) :* e :+ t :* ((a :* d :+ b :* c) :* f) := a :* (c :* e :+ t :* (d :* f)) :+ t :* (b :* (c :* f :+ d :* e))) refl)
      (solve R (a ∷ b ∷ c ∷ d ∷ e ∷ f ∷ t ∷ [])
      (λ a b c d e f t. (a :* c :+ t :* (b :* d)) :* f :+ (a :* d :+ b :* c) :* e := a :* (c :* f :+ d :* e) :+ b :* (c :* e :+ t :* (d :* f))) refl)

  pub qmul_comm : (x y : A × A) → qmul R t x y ≡ qmul R t y x
  unfolding qmul
  qmul_comm (a, b) (c, d) =
      pair (solve R (a ∷ b ∷ c ∷ d ∷ t ∷ []) (λ a b c d t. a :* c :+ t :* (b :* d) := c :* a :+ t :* (d :* b)) refl)
      (solve R (a ∷ b ∷ c ∷ d ∷ []) (λ a b c d. a :* d :+ b :* c := c :* b :+ d :* a) refl)

  pub qmul_one : (x : A × A) → qmul R t x (𝟙, 𝟘) ≡ x
  unfolding qmul
  qmul_one (a, b) =
      pair (solve R (a ∷ b ∷ t ∷ []) (λ a b t. a :* :1 :+ t :* (b :* :0) := a) refl) (solve R (a ∷ b ∷ []) (λ a b. a :* :0 :+ b :* :1 := b) refl)

  pub qmul-add : (x y z : A × A) → qmul R t x (qadd R t y z) ≡ qadd R t (qmul R t x y) (qmul R t x z)
  unfolding qadd qmul
  qmul-add (a, b) (c, d) (e, f) =
      pair
      (solve R (a ∷ b ∷ c ∷ d ∷ e ∷ f ∷ t ∷ []) (λ a b c d e f t. a :* (c :+ e) :+ t :* (b :* (d :+ f)) := a :* c :+ t :* (b :* d) :+ (a :* e :+ t :* (b :* f))) refl)
      (solve R (a ∷ b ∷ c ∷ d ∷ e ∷ f ∷ []) (λ a b c d e f. a :* (d :+ f) :+ b :* (c :+ e) := a :* d :+ b :* c :+ (a :* f :+ b :* e)) refl)

  abbrev pub quadratic : Ring (A × A)
  quadratic = record {
    zero = (𝟘, 𝟘);
    one = (𝟙, 𝟘);
    add = qadd R t;
    mul = qmul R t;
    neg = qneg R t;
    add_assoc = qadd_assoc;
    add_comm = qadd_comm;
    add_zero = qadd-zero;
    add_neg = qadd-neg;
    mul_assoc = qmul_assoc;
    mul_comm = qmul_comm;
    mul_one = qmul_one;
    mul_add = qmul-add;
  }

  -- the product with an element of R
  pub scale_is : (a : A) (u : A × A) → qmul R t (a, 𝟘) u ≡ (a ⊗ u.0, a ⊗ u.1)
  unfolding qmul
  scale_is a (c, d) =
      pair (solve R (a ∷ c ∷ d ∷ t ∷ []) (λ a c d t. a :* c :+ t :* (:0 :* d) := a :* c) refl) (solve R (a ∷ c ∷ d ∷ []) (λ a c d. a :* d :+ :0 :* c := a :* d) refl)

  -- a² − t·b², the norm
  norm : A → A → A
  norm a b = a ⊗ a ⊖ t ⊗ (b ⊗ b)

  norm-inverse : (a b n : A) → norm a b ⊗ n ≡ 𝟙 → qmul R t (a, b) (a ⊗ n, neg b ⊗ n) ≡ (𝟙, 𝟘)
  unfolding norm qmul
  norm-inverse a b n e =
      pair
      (solve R (a ∷ b ∷ n ∷ t ∷ []) (λ a b n t. a :* (a :* n) :+ t :* (b :* (:neg b :* n)) := :1 given :1 ⋆ (a :* a :- t :* (b :* b)) :* n ≈ :1) refl e)
      (solve R (a ∷ b ∷ n ∷ []) (λ a b n. a :* (:neg b :* n) :+ b :* (a :* n) := :0) refl)

  module _ (F : IsField R) (nonsquare : (x : A) → x ⊗ x ≢ t) where
    -- t would be the square of a / b
    norm-zero : (a b : A) → norm a b ≡ 𝟘 → b ≡ 𝟘
    unfolding norm
    norm-zero a b e = elim (F.zero? b) [
      | yes h ↦ h
      | no h ↦
          let (c, k) = F.inverse b h in
          absurd (nonsquare (a ⊗ c)
          (solve R (a ∷ b ∷ c ∷ t ∷ [])
          (λ a b c t. a :* c :* (a :* c) := t given c :* c ⋆ a :* a :- t :* (b :* b) ≈ :0 given t :* (b :* c :+ :1) ⋆ b :* c ≈ :1) refl e k))
    ]

    norm-zero-left : (a b : A) → norm a b ≡ 𝟘 → a ≡ 𝟘
    unfolding norm
    norm-zero-left a b e = elim (F.zero? a) [
      | yes h ↦ h
      | no h ↦
          field_domain F a a h
          (solve R (a ∷ b ∷ t ∷ []) (λ a b t. a :* a := :0 given :1 ⋆ a :* a :- t :* (b :* b) ≈ :0 given t :* b ⋆ b ≈ :0) refl e (norm-zero a b e))
    ]

    zero_pair? : (u : A × A) → Dec (u ≡ (𝟘, 𝟘))
    zero_pair? u = elim (F.zero? u.0) [
      | no h ↦ no (λ e. h (ap (λ (v : A × A). v.0) e))
      | yes h ↦ elim (F.zero? u.1) [ no k ↦ no (λ e. k (ap (λ (v : A × A). v.1) e)) | yes k ↦ yes (pair h k) ]
    ]

    pub quadratic_field : IsField quadratic
    quadratic_field = record {
      one_ne_zero = λ e. F.one_ne_zero (ap (λ (u : A × A). u.0) e);
      zero? = zero_pair?;
      inverse = λ u h.
          let (n, k) = F.inverse (norm u.0 u.1) (λ e. h (pair (norm-zero-left u.0 u.1 e) (norm-zero u.0 u.1 e))) in
          ((u.0 ⊗ n, neg u.1 ⊗ n), norm-inverse u.0 u.1 n k);
    }

    -- if (c + d·√t)² = √t, then c² + t·d² = 0, so (i·c)² = t·d² and d = 0, but 2·c·d = 1
    pub root_nonsquare : (i : A) → i ⊗ i ≡ neg 𝟙 → (u : A × A) → qmul R t u u ≢ (𝟘, 𝟙)
    unfolding qmul norm
    root_nonsquare i ii (c, d) e =
        let f : c ⊗ c ⊕ t ⊗ (d ⊗ d) ≡ 𝟘 = ap (λ (v : A × A). v.0) e in
        let g : c ⊗ d ⊕ d ⊗ c ≡ 𝟙 = ap (λ (v : A × A). v.1) e in
        let z : d ≡ 𝟘 =
        norm-zero (i ⊗ c) d
        (solve R (c ∷ d ∷ i ∷ t ∷ []) (λ c d i t. i :* c :* (i :* c) :- t :* (d :* d) := :0 given :neg :1 ⋆ c :* c :+ t :* (d :* d) ≈ :0 given c :* c ⋆ i :* i ≈ :neg :1) refl f ii) in
        F.one_ne_zero (solve R (c ∷ d ∷ []) (λ c d. :1 := :0 given :neg :1 ⋆ c :* d :+ d :* c ≈ :1 given c :+ c ⋆ d ≈ :0) refl g z)

-- The product in R[√t][√√t] by coefficients: a₀ + a₁ X + a₂ X² + a₃ X³ with X⁴ = t stands as ((a₀, a₂), (a₁, a₃)).
module _ {A : Type 0} (R : Ring A) (t : A) where
  infixl 60 ◌⊕◌
  infixl 70 ◌⊗◌
  open R use {zero as 𝟘, one as 𝟙, add as ◌⊕◌, mul as ◌⊗◌}

  pub quartic_product : (a₀ a₁ a₂ a₃ b₀ b₁ b₂ b₃ : A)
      → (quadratic (quadratic R t) (𝟘, 𝟙)).mul ((a₀, a₂), (a₁, a₃)) ((b₀, b₂), (b₁, b₃))
      ≡ (
        (a₀ ⊗ b₀ ⊕ t ⊗ (a₁ ⊗ b₃ ⊕ a₂ ⊗ b₂ ⊕ a₃ ⊗ b₁), a₀ ⊗ b₂ ⊕ a₁ ⊗ b₁ ⊕ a₂ ⊗ b₀ ⊕ t ⊗ (a₃ ⊗ b₃)),
        (a₀ ⊗ b₁ ⊕ a₁ ⊗ b₀ ⊕ t ⊗ (a₂ ⊗ b₃ ⊕ a₃ ⊗ b₂), a₀ ⊗ b₃ ⊕ a₁ ⊗ b₂ ⊕ a₂ ⊗ b₁ ⊕ a₃ ⊗ b₀),
      )
  unfolding qmul qadd
  quartic_product a₀ a₁ a₂ a₃ b₀ b₁ b₂ b₃ =
      let ρ = a₀ ∷ a₁ ∷ a₂ ∷ a₃ ∷ b₀ ∷ b₁ ∷ b₂ ∷ b₃ ∷ t ∷ [] in
      pair
      (pair
      (solve R ρ
      (λ a₀ a₁ a₂ a₃ b₀ b₁ b₂ b₃ t.
      a₀ :* b₀ :+ t :* (a₂ :* b₂) :+ (:0 :* (a₁ :* b₁ :+ t :* (a₃ :* b₃)) :+ t :* (:1 :* (a₁ :* b₃ :+ a₃ :* b₁)))
      := a₀ :* b₀ :+ t :* (a₁ :* b₃ :+ a₂ :* b₂ :+ a₃ :* b₁)) refl)
      (solve R ρ
      (λ a₀ a₁ a₂ a₃ b₀ b₁ b₂ b₃ t.
      a₀ :* b₂ :+ a₂ :* b₀ :+ (:0 :* (a₁ :* b₃ :+ a₃ :* b₁) :+ :1 :* (a₁ :* b₁ :+ t :* (a₃ :* b₃)))
      := a₀ :* b₂ :+ a₁ :* b₁ :+ a₂ :* b₀ :+ t :* (a₃ :* b₃)) refl))
      (pair
      (solve R ρ
      (λ a₀ a₁ a₂ a₃ b₀ b₁ b₂ b₃ t.
      a₀ :* b₁ :+ t :* (a₂ :* b₃) :+ (a₁ :* b₀ :+ t :* (a₃ :* b₂))
      := a₀ :* b₁ :+ a₁ :* b₀ :+ t :* (a₂ :* b₃ :+ a₃ :* b₂)) refl)
      (solve R ρ
      (λ a₀ a₁ a₂ a₃ b₀ b₁ b₂ b₃ t.
      a₀ :* b₃ :+ a₂ :* b₁ :+ (a₁ :* b₂ :+ a₃ :* b₀)
      := a₀ :* b₃ :+ a₁ :* b₂ :+ a₂ :* b₁ :+ a₃ :* b₀) refl))
