-- Laws of the eq table of a point and of multilinear polynomials by their tables: halves, folding, linearity, parts of a point.
use mathlib.Core.Path.{◌≡◌, refl, sym, ◌∙◌, ap, ap₂}
use mathlib.Core.List.{List, [], ◌∷◌, ◌++◌}
use Prim.Native.Nat.{ℕ, suc, ◌+◌, ◌*◌, ◌^◌, ◌/◌, ◌%◌, ◌<◌}
use native.Mathlib.Nat
use native.Mathlib.Nat.{pow-succ'}
use native.Mathlib.Omega.{arith}
use lib.ListN.{length, get_or, length-append}
use Rattle.algebra.specs.Ring.{Ring}
use Rattle.algebra.specs.Sum.{sum, product}
use Rattle.algebra.specs.Multilinear.{bit_factor, cube_factor, mle, line, fold_mle}
use Rattle.algebra.proofs.RingLaws as Laws
use Rattle.algebra.proofs.Expression.{:0, :1, ◌:+◌, ◌:-◌, ◌:*◌, ◌:=◌}
use Rattle.algebra.proofs.Solver.{solve}
use Rattle.algebra.proofs.Sums.{sum_cong, sum_cong_below, sum-add, sum-mul, sum-mul-right, sum_grid, product_first}
use Rattle.algebra.proofs.Powers.{two_pow-add}

module _ {A : Type 0} (R : Ring A) where
  infixl 60 ◌⊕◌ ◌⊖◌
  infixl 70 ◌⊗◌
  open R use {zero as 𝟘, one as 𝟙, add as ◌⊕◌, mul as ◌⊗◌, neg, mul_assoc}

  abbrev ◌⊖◌ : A → A → A
  a ⊖ b = a ⊕ neg b

  pub cube_factor_nil : (i : ℕ) → cube_factor R [] i ≡ 𝟙
  unfolding cube_factor
  cube_factor_nil i = refl

  pub cube_factor_even : (x : A) (xs : List A) (i : ℕ) → cube_factor R (x ∷ xs) (2 * i) ≡ (𝟙 ⊖ x) ⊗ cube_factor R xs i
  unfolding cube_factor bit_factor
  cube_factor_even x xs i = ap₂ (λ b q. bit_factor R x b ⊗ cube_factor R xs q) (Nat.mul-mod_right 2 i) (Nat.mul-div_right i (omega arith))

  pub cube_factor_odd : (x : A) (xs : List A) (i : ℕ) → cube_factor R (x ∷ xs) (2 * i + 1) ≡ x ⊗ cube_factor R xs i
  unfolding cube_factor bit_factor
  cube_factor_odd x xs i =
      ap₂ (λ b q. bit_factor R x b ⊗ cube_factor R xs q) (Nat.mul-add-mod_self_left 2 i 1) (Nat.mul-add-div (omega arith) i 1 ∙ Nat.add-zero i)

  -- as a product over the bits: bit j of i is (i / 2^j) % 2
  pub cube_factor-product : (xs : List A) (i : ℕ) → cube_factor R xs i ≡ product R (length xs) (λ j. bit_factor R (get_or xs j 𝟘) (i / 2 ^ j % 2))
  unfolding cube_factor product
  cube_factor-product [] i = refl
  cube_factor-product (x ∷ xs) i =
      ap₂ ◌⊗◌ (ap (λ q. bit_factor R x (q % 2)) (sym (Nat.div-one i)))
      (cube_factor-product xs (i / 2) ∙ ap (product R (length xs)) (λ t j. bit_factor R (get_or xs j 𝟘) (shift j t % 2)))
      ∙ sym (product_first R (length xs) (λ j. bit_factor R (get_or (x ∷ xs) j 𝟘) (i / 2 ^ j % 2)))
    where
      shift : (j : ℕ) → i / 2 / 2 ^ j ≡ i / 2 ^ suc j
      shift j = Nat.div-div-eq-div-mul i 2 (2 ^ j) ∙ ap (λ k. i / k) (sym (pow-succ' 2 j))

  -- the point in two parts: the low bits of the index belong to the first
  pub cube_factor_append : (xs ys : List A) (i j : ℕ) → i < 2 ^ length xs → cube_factor R (xs ++ ys) (i + 2 ^ length xs * j) ≡ cube_factor R xs i ⊗ cube_factor R ys j
  unfolding cube_factor
  cube_factor_append [] ys i j h = ap (cube_factor R ys) {x = i + 1 * j} {y = j} (omega arith) ∙ sym (Laws.one_mul R _)
  cube_factor_append (x ∷ xs) ys i j h =
      ap (cube_factor R (x ∷ xs ++ ys)) {x = i + 2 ^ suc (length xs) * j} {y = i + 2 * rest}
      (ap (λ k. i + k) (ap (λ k. k * j) (pow-succ' 2 (length xs)) ∙ Nat.mul_assoc 2 (2 ^ length xs) j))
      ∙ ap₂ (λ b q. bit_factor R x b ⊗ cube_factor R (xs ++ ys) q) (Nat.add-mul-mod_self_left i 2 rest) (Nat.add-mul-div_left i rest (omega arith))
      ∙ ap (λ f. bit_factor R x (i % 2) ⊗ f) (cube_factor_append xs ys (i / 2) j (omega (arith, pow-succ' 2 (length xs))))
      ∙ sym (mul_assoc _ _ _)
    where
      rest : ℕ
      rest = 2 ^ length xs * j

  pub line-zero : (a b : A) → line R a b 𝟘 ≡ a
  unfolding line
  line-zero a b = solve R (a ∷ b ∷ []) (λ a b. a :+ (b :- a) :* :0 := a) refl

  pub line_one : (a b : A) → line R a b 𝟙 ≡ b
  unfolding line
  line_one a b = solve R (a ∷ b ∷ []) (λ a b. a :+ (b :- a) :* :1 := b) refl

  pub mle_nil : (t : ℕ → A) → mle R t [] ≡ t 0
  unfolding mle sum cube_factor
  mle_nil t = solve R (t 0 ∷ []) (λ t. :0 :+ t :* :1 := t) refl

  -- only the entries below 2^n count
  pub mle_cong : (s t : ℕ → A) (xs : List A) → ((i : ℕ) → i < 2 ^ length xs → s i ≡ t i) → mle R s xs ≡ mle R t xs
  unfolding mle
  mle_cong s t xs h = sum_cong_below R (2 ^ length xs) (λ i l. ap (λ a. a ⊗ cube_factor R xs i) (h i l))

  pub mle-add : (s t : ℕ → A) (xs : List A) → mle R (λ i. s i ⊕ t i) xs ≡ mle R s xs ⊕ mle R t xs
  unfolding mle
  mle-add s t xs =
      sum_cong R (2 ^ length xs) (λ i. Laws.add-mul R (s i) (t i) (cube_factor R xs i))
      ∙ sum-add R (2 ^ length xs) (λ i. s i ⊗ cube_factor R xs i) (λ i. t i ⊗ cube_factor R xs i)

  pub mle-mul : (c : A) (t : ℕ → A) (xs : List A) → mle R (λ i. c ⊗ t i) xs ≡ c ⊗ mle R t xs
  unfolding mle
  mle-mul c t xs = sum_cong R (2 ^ length xs) (λ i. mul_assoc c (t i) (cube_factor R xs i)) ∙ sum-mul R (2 ^ length xs) c (λ i. t i ⊗ cube_factor R xs i)

  -- the point in two parts: first each block's polynomial, then the polynomial through these values
  pub mle_append : (t : ℕ → A) (xs ys : List A) → mle R t (xs ++ ys) ≡ mle R (λ j. mle R (λ i. t (i + 2 ^ length xs * j)) xs) ys
  unfolding mle
  mle_append t xs ys =
      ap (λ n. sum R n term) (ap (λ n. 2 ^ n) (length-append xs ys) ∙ two_pow-add (length xs) (length ys)) ∙ sum_grid R (2 ^ length xs) (2 ^ length ys) term
      ∙ sum_cong R (2 ^ length ys) (λ j.
      sum_cong_below R (2 ^ length xs) (λ i h. ap (λ f. t (i + 2 ^ length xs * j) ⊗ f) (cube_factor_append xs ys i j h) ∙ sym (mul_assoc _ _ _))
      ∙ sum-mul-right R (2 ^ length xs) (cube_factor R ys j) (λ i. t (i + 2 ^ length xs * j) ⊗ cube_factor R xs i))
    where
      term : ℕ → A
      term i = t i ⊗ cube_factor R (xs ++ ys) i

  -- one coordinate: the line through the two entries
  mle_single : (t : ℕ → A) (u : A) → mle R t (u ∷ []) ≡ line R (t 0) (t 1) u
  unfolding mle sum cube_factor bit_factor line
  mle_single t u = solve R (t 0 ∷ t 1 ∷ u ∷ []) (λ a b u. :0 :+ a :* ((:1 :- u) :* :1) :+ b :* (u :* :1) := a :+ (b :- a) :* u) refl

  -- to fold is to put a value for the lowest variable
  pub mle_fold : (t : ℕ → A) (u : A) (xs : List A) → mle R t (u ∷ xs) ≡ mle R (fold_mle R t u) xs
  unfolding fold_mle
  mle_fold t u xs =
      mle_append t (u ∷ []) xs
      ∙ mle_cong _ _ xs (λ y _. mle_single (λ i. t (i + 2 * y)) u ∙ ap₂ (λ i j. line R (t i) (t j) u) (Nat.zero-add (2 * y)) (Nat.add_comm 1 (2 * y)))
