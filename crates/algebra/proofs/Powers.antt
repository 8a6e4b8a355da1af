-- Laws of powers: sums and products of exponents, repeated squaring, and powers of elements whose product is one.
use mathlib.Core.Path.{◌≡◌, refl, sym, ◌∙◌, ap}
use mathlib.Core.List.{[], ◌∷◌}
use Prim.Native.Nat.{ℕ, zero, suc, ◌+◌, ◌*◌, ◌-◌, ◌%◌, ◌^◌, ◌<◌, ◌≤◌}
use native.Mathlib.Nat
use native.Mathlib.Nat.{one-le-pow, pow-succ'}
use native.Mathlib.Omega.{arith}
use Rattle.algebra.specs.Ring.{Ring, num, pow}
use Rattle.algebra.proofs.RingLaws as Laws
use Rattle.algebra.proofs.Expression.{con, :1, ◌:*◌, :neg, ◌:=◌, ◌given◌⋆◌≈◌}
use Rattle.algebra.proofs.Solver.{num_one, num-mul, solve}

pub two_pow-pos : (l : ℕ) → 0 < 2 ^ l
two_pow-pos l = one-le-pow l 2 (omega arith)

pub two_pow-add : (m n : ℕ) → 2 ^ (m + n) ≡ 2 ^ m * 2 ^ n
two_pow-add m zero = ap (λ k. 2 ^ k) (Nat.add-zero m) ∙ sym (Nat.mul-one (2 ^ m))
two_pow-add m (suc n) =
    ap (λ k. 2 ^ k) (Nat.add-suc m n) ∙ Nat.pow-suc 2 (m + n) ∙ ap (λ k. k * 2) (two_pow-add m n) ∙ Nat.mul_assoc (2 ^ m) (2 ^ n) 2
    ∙ ap (λ k. 2 ^ m * k) (sym (Nat.pow-suc 2 n))

-- a one shifted by l in a word of w bits
pub shift_exact : (l w : ℕ) → l < w → 1 * 2 ^ l % 2 ^ w ≡ 2 ^ l
shift_exact l w h =
    let b : 2 ^ suc l ≤ 2 ^ w = Nat.pow-le-pow_right {n = 2} (omega arith) h in
    ap (λ n. n % 2 ^ w) (Nat.one-mul (2 ^ l)) ∙ Nat.mod-eq_of_lt (omega (arith, two_pow-pos l, Nat.two-pow-succ l))

pub suc_pred : {n : ℕ} → 0 < n → suc (n - 1) ≡ n
suc_pred h = omega arith

module _ {A : Type 0} (R : Ring A) where
  infixl 70 ◌⊗◌
  open R use {one as 𝟙, mul as ◌⊗◌, mul_assoc, mul_comm, mul_one}

  pub pow-add : (a : A) (m n : ℕ) → pow R a (m + n) ≡ pow R a m ⊗ pow R a n
  unfolding pow
  pow-add a zero n = ap (pow R a) (Nat.zero-add n) ∙ sym (Laws.one_mul R _)
  pow-add a (suc m) n = ap (pow R a) (Nat.suc-add m n) ∙ ap (λ x. a ⊗ x) (pow-add a m n) ∙ sym (mul_assoc _ _ _)

  pub pow-mul : (a b : A) (n : ℕ) → pow R (a ⊗ b) n ≡ pow R a n ⊗ pow R b n
  unfolding pow
  pow-mul a b zero = sym (mul_one 𝟙)
  pow-mul a b (suc n) =
      ap (λ x. a ⊗ b ⊗ x) (pow-mul a b n)
      ∙ solve R (a ∷ b ∷ pow R a n ∷ pow R b n ∷ []) (λ a b x y. a :* b :* (x :* y) := a :* x :* (b :* y)) refl

  pub pow-pow : (a : A) (m n : ℕ) → pow R (pow R a m) n ≡ pow R a (m * n)
  unfolding pow
  pow-pow a m zero = ap (pow R a) (sym (Nat.mul-zero m))
  pow-pow a m (suc n) =
      ap (λ x. pow R a m ⊗ x) (pow-pow a m n) ∙ mul_comm _ _ ∙ sym (pow-add a (m * n) m) ∙ ap (pow R a) (sym (Nat.mul-suc m n))

  -- squared n times, which computes at once: the power 2ⁿ
  abbrev pub squared : ℕ → A → A
  squared zero a = a
  squared (suc n) a = squared n (a ⊗ a)

  pub squared_is : (n : ℕ) (a : A) → squared n a ≡ pow R a (2 ^ n)
  unfolding pow
  squared_is zero a = sym (mul_one a)
  squared_is (suc n) a =
      squared_is n (a ⊗ a) ∙ ap (λ x. pow R (a ⊗ x) (2 ^ n)) (sym (mul_one a)) ∙ pow-pow a 2 (2 ^ n) ∙ ap (pow R a) (sym (pow-succ' 2 n))

  pub pow_of_one : (n : ℕ) → pow R 𝟙 n ≡ 𝟙
  unfolding pow
  pow_of_one zero = refl
  pow_of_one (suc n) = Laws.one_mul R (pow R 𝟙 n) ∙ pow_of_one n

  pub pow_is_one : (a : A) (m n : ℕ) → pow R a m ≡ 𝟙 → pow R a (m * n) ≡ 𝟙
  pow_is_one a m n e = sym (pow-pow a m n) ∙ ap (λ x. pow R x n) e ∙ pow_of_one n

  pub pow-inverse : (a b : A) (n : ℕ) → a ⊗ b ≡ 𝟙 → pow R a n ⊗ pow R b n ≡ 𝟙
  pow-inverse a b n e = sym (pow-mul a b n) ∙ ap (λ x. pow R x n) e ∙ pow_of_one n

  -- powers of powers, the other way round
  pub pow_swap : (a : A) (m n : ℕ) → pow R (pow R a m) n ≡ pow R (pow R a n) m
  pow_swap a m n = pow-pow a m n ∙ ap (pow R a) (Nat.mul_comm m n) ∙ sym (pow-pow a n m)

  -- an inverse is unique
  pub inverse_unique : (a b c : A) → a ⊗ c ≡ 𝟙 → c ⊗ b ≡ 𝟙 → a ≡ b
  inverse_unique a b c p q = solve R (a ∷ b ∷ c ∷ []) (λ a b c. a := b given b ⋆ a :* c ≈ :1 given :neg a ⋆ c :* b ≈ :1) refl p q

  -- a^(n − i) and b^i
  pub pow_back : (a b : A) (n i : ℕ) → a ⊗ b ≡ 𝟙 → pow R a n ≡ 𝟙 → i ≤ n → pow R a (n - i) ≡ pow R b i
  pow_back a b n i e f h =
      inverse_unique (pow R a (n - i)) (pow R b i) (pow R a i) (sym (pow-add a (n - i) i) ∙ ap (pow R a) (Nat.sub-add_cancel h) ∙ f) (pow-inverse a b i e)

  -- half^l is one over 2^l
  pub half_pow : (half : A) → half ⊗ num R 2 ≡ 𝟙 → (l : ℕ) → pow R half l ⊗ num R (2 ^ l) ≡ 𝟙
  unfolding pow
  half_pow half e zero = Laws.one_mul R (num R 1) ∙ num_one R
  half_pow half e (suc l) =
      ap (λ n. pow R half (suc l) ⊗ num R n) (Nat.pow-succ' 2 l) ∙ ap (λ x. pow R half (suc l) ⊗ x) (num-mul R 2 (2 ^ l))
      ∙ solve R (half ∷ pow R half l ∷ num R (2 ^ l) ∷ []) (λ h p n. h :* p :* (con 2 :* n) := :1 given p :* n ⋆ h :* con 2 ≈ :1 given :1 ⋆ p :* n ≈ :1) refl e (half_pow half e l)
