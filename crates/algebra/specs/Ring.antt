-- Commutative rings, as a flat record of operations and laws over a carrier, and what is written with them alone.
use Rattle.std.specs.Prelude.{◌≡◌, ◌≢◌, ℕ, zero, suc}

pub record Ring (A : Type 0) : Type 0 where
  pub zero : A
  pub one : A
  pub add : A → A → A
  pub mul : A → A → A
  pub neg : A → A
  pub add_assoc : (a b c : A) → add (add a b) c ≡ add a (add b c)
  pub add_comm : (a b : A) → add a b ≡ add b a
  pub add_zero : (a : A) → add a zero ≡ a
  pub add_neg : (a : A) → add a (neg a) ≡ zero
  pub mul_assoc : (a b c : A) → mul (mul a b) c ≡ mul a (mul b c)
  pub mul_comm : (a b : A) → mul a b ≡ mul b a
  pub mul_one : (a : A) → mul a one ≡ a
  pub mul_add : (a b c : A) → mul a (add b c) ≡ add (mul a b) (mul a c)

module _ {A : Type 0} (R : Ring A) where
  open R use {zero as 𝟘, one as 𝟙, add, mul, neg}

  abbrev pub sub : A → A → A
  sub a b = add a (neg b)

  -- n times one
  unfoldable pub num : ℕ → A
  num zero = 𝟘
  num (suc n) = add 𝟙 (num n)

  -- the n-th power
  unfoldable pub pow : A → ℕ → A
  pow x zero = 𝟙
  pow x (suc n) = mul x (pow x n)

  -- no zero divisors
  abbrev pub Domain : Type 0
  Domain = (a b : A) → a ≢ 𝟘 → mul a b ≡ 𝟘 → b ≡ 𝟘

-- A ring in which zero can be told, and everything else has an inverse.
pub record IsField {A : Type 0} (R : Ring A) : Type 0 where
  pub one_ne_zero : R.one ≢ R.zero
  pub zero? : (x : A) → Dec (x ≡ R.zero)
  pub inverse : (x : A) → x ≢ R.zero → (y : A) × (R.mul x y ≡ R.one)
