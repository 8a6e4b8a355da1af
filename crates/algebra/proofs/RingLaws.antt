-- What follows from the laws of a commutative ring.
use mathlib.Core.Path.{◌≡◌, sym, ◌∙◌, ap, ap₂}
use Rattle.algebra.specs.Ring.{Ring, sub}

module _ {A : Type 0} (R : Ring A) where
  infixl 60 ◌⊕◌
  infixl 70 ◌⊗◌
  open R use {zero as 𝟘, one as 𝟙, add as ◌⊕◌, mul as ◌⊗◌, neg, add_assoc, add_comm, add_zero, add_neg, mul_assoc, mul_comm, mul_one, mul_add}

  pub zero-add : (a : A) → 𝟘 ⊕ a ≡ a
  zero-add a = add_comm 𝟘 a ∙ add_zero a

  pub neg-add : (a : A) → neg a ⊕ a ≡ 𝟘
  neg-add a = add_comm (neg a) a ∙ add_neg a

  pub one_mul : (a : A) → 𝟙 ⊗ a ≡ a
  one_mul a = mul_comm 𝟙 a ∙ mul_one a

  pub add-mul : (a b c : A) → (a ⊕ b) ⊗ c ≡ a ⊗ c ⊕ b ⊗ c
  add-mul a b c = mul_comm (a ⊕ b) c ∙ mul_add c a b ∙ ap₂ ◌⊕◌ (mul_comm c a) (mul_comm c b)

  pub add_left_comm : (a b c : A) → a ⊕ (b ⊕ c) ≡ b ⊕ (a ⊕ c)
  add_left_comm a b c = sym (add_assoc a b c) ∙ ap (λ x. x ⊕ c) (add_comm a b) ∙ add_assoc b a c

  pub mul_left_comm : (a b c : A) → a ⊗ (b ⊗ c) ≡ b ⊗ (a ⊗ c)
  mul_left_comm a b c = sym (mul_assoc a b c) ∙ ap (λ x. x ⊗ c) (mul_comm a b) ∙ mul_assoc b a c

  pub add_swap : (a b c d : A) → (a ⊕ b) ⊕ (c ⊕ d) ≡ (a ⊕ c) ⊕ (b ⊕ d)
  add_swap a b c d = simp (add_assoc, add_left_comm b c d)

  -- a ⊕ c ≡ b ⊕ c gives a ≡ b
  pub add_cancel : (a b c : A) → a ⊕ c ≡ b ⊕ c → a ≡ b
  add_cancel a b c p =
      sym (add_zero a) ∙ ap (λ x. a ⊕ x) (sym (add_neg c)) ∙ sym (add_assoc a c (neg c))
      ∙ ap (λ x. x ⊕ neg c) p
      ∙ add_assoc b c (neg c) ∙ ap (λ x. b ⊕ x) (add_neg c) ∙ add_zero b

  pub mul-zero : (a : A) → a ⊗ 𝟘 ≡ 𝟘
  mul-zero a = add_cancel (a ⊗ 𝟘) 𝟘 (a ⊗ 𝟘) (sym (mul_add a 𝟘 𝟘) ∙ ap (λ x. a ⊗ x) (add_zero 𝟘) ∙ sym (zero-add (a ⊗ 𝟘)))

  pub zero-mul : (a : A) → 𝟘 ⊗ a ≡ 𝟘
  zero-mul a = mul_comm 𝟘 a ∙ mul-zero a

  -- the negative is unique
  pub neg_unique : (a b : A) → a ⊕ b ≡ 𝟘 → b ≡ neg a
  neg_unique a b p = add_cancel b (neg a) a (add_comm b a ∙ p ∙ sym (neg-add a))

  pub neg-neg : (a : A) → neg (neg a) ≡ a
  neg-neg a = sym (neg_unique (neg a) a (neg-add a))

  pub neg-zero : neg 𝟘 ≡ 𝟘
  neg-zero = sym (neg_unique 𝟘 𝟘 (add_zero 𝟘))

  pub neg-plus : (a b : A) → neg (a ⊕ b) ≡ neg a ⊕ neg b
  neg-plus a b =
      sym (neg_unique (a ⊕ b) (neg a ⊕ neg b)
      (add_swap a b (neg a) (neg b) ∙ ap₂ ◌⊕◌ (add_neg a) (add_neg b) ∙ add_zero 𝟘))

  pub neg-mul : (a b : A) → neg a ⊗ b ≡ neg (a ⊗ b)
  neg-mul a b = neg_unique (a ⊗ b) (neg a ⊗ b) (sym (add-mul a (neg a) b) ∙ ap (λ x. x ⊗ b) (add_neg a) ∙ zero-mul b)

  pub mul-neg : (a b : A) → a ⊗ neg b ≡ neg (a ⊗ b)
  mul-neg a b = mul_comm a (neg b) ∙ neg-mul b a ∙ ap neg (mul_comm b a)

  pub eq_of_sub : (a b : A) → sub R a b ≡ 𝟘 → a ≡ b
  eq_of_sub a b p = add_cancel a b (neg b) (p ∙ sym (add_neg b))

  pub sub_of_eq : (a b : A) → a ≡ b → sub R a b ≡ 𝟘
  sub_of_eq a b p = ap (λ x. x ⊕ neg b) p ∙ add_neg b
